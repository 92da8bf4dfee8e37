-- Every legal word occurs: on every accepted road it is the word of a state, of densities 0, C and J alone.
use mathlib.Core.Path.{◌≡◌, refl, ap, ap₂}
use mathlib.Core.Bool.{Bool, true, false}
use mathlib.Core.List.{List, [], ◌∷◌}
use Prim.Native.Nat.{ℕ, zero, suc, ◌≤◌, ◌<◌, zero-le}
use native.Mathlib.Nat.{le_refl, le_of_lt, lt_of_not-le, not-suc-le-zero, mul-zero, sub_self, mul-pos}
use native.Mathlib.Decide.{dec_le}
use native.Mathlib.Omega.{arith}
use lib.Dec.{eqb}
use lib.ListN.{length, get_or}
use borrow.Author.Tests.{ne_eqb}
use Rattle.choice.specs.Choice.{pick, or}
use Rattle.road.specs.Judgement.{Accepted}
use Rattle.road.specs.declared.Road.{Road}
use Rattle.flux.specs.Face.{letter_w, letter_l, letter_d, letter}
use Rattle.flux.proofs.Letters.{full_w, full_d, free_l, free_d}
use Rattle.scheme.specs.Word.{word_of}
use Rattle.words.specs.Words.{legal}
use Rattle.modes.specs.ReadOff.{between, upstream_of, downstream_of, cells_of}
use Rattle.modes.specs.ReadOff.{Occurs}
use Rattle.words.proofs.Legal.{Legal, one, may_follow, legal_word}

module _ (r : Road) (ok : Accepted r) where
  -- no density of the state is above jam
  between_jam : (s t : ℕ) → between r s t ≤ r.jam
  unfolding between
  between_jam s t = by_tests (or (eqb s letter_w) (eqb t letter_l)) (eqb t letter_w)
    where
      by_tests : (a b : Bool) → pick a r.jam (pick b r.critical 0) ≤ r.jam
      by_tests true b = le_refl r.jam
      by_tests false true = le_of_lt ok.critical_high
      by_tests false false = zero-le

  -- above W some density, above L jam, and above D, which W never stands before, 0
  above_w : (before : ℕ) → 0 < between r before letter_w
  unfolding between
  above_w before = by_test (eqb before letter_w)
    where
      by_test : (a : Bool) → 0 < pick (or a false) r.jam r.critical
      by_test true = omega (arith, ok.jam_low)
      by_test false = ok.critical_low

  above_l : (before : ℕ) → between r before letter_l ≡ r.jam
  unfolding between
  above_l before = by_test (eqb before letter_w)
    where
      by_test : (a : Bool) → pick (or a true) r.jam 0 ≡ r.jam
      by_test true = refl
      by_test false = refl

  above_d : (before : ℕ) → (before ≡ letter_w → ⊥) → between r before letter_d ≡ 0
  unfolding between
  above_d before h = rw (ne_eqb before letter_w h)

  -- below W jam, and below L, which L never stands after, at most critical
  below_w : (after : ℕ) → between r letter_w after ≡ r.jam
  unfolding between
  below_w after = refl

  below_l : (after : ℕ) → (after ≡ letter_l → ⊥) → between r letter_l after ≤ r.critical
  unfolding between
  below_l after h = rw (ne_eqb after letter_l h) (by_test (eqb after letter_w))
    where
      by_test : (a : Bool) → pick a r.critical 0 ≤ r.critical
      by_test true = le_refl r.critical
      by_test false = zero-le

  -- (a, J) is W where a is not 0, (J, b) is L where b is at most C, and (0, b) is D
  into_jam : (a : ℕ) → 0 < a → letter r a r.jam ≡ letter_w
  into_jam a h = full_w r a r.jam ok.critical_high (rw (sub_self, mul-zero) (mul-pos ok.free_low h))

  from_jam : (b : ℕ) → b ≤ r.critical → letter r r.jam b ≡ letter_l
  from_jam b h = free_l r r.jam b h ok.critical_high

  from_empty : (b : ℕ) → letter r 0 b ≡ letter_d
  from_empty b = by_density (dec_le b r.critical)
    where
      by_density : Dec (b ≤ r.critical) → letter r 0 b ≡ letter_d
      by_density (yes h) = free_d r 0 b h zero-le
      by_density (no n) = full_d r 0 b (lt_of_not-le n) (rw mul-zero zero-le)

  -- the face of a letter, between those of the two beside it
  face : (before s after : ℕ) → s ≤ letter_d → (before ≡ letter_w → s ≡ letter_d → ⊥) → (s ≡ letter_l → after ≡ letter_l → ⊥)
      → letter r (between r before s) (between r s after) ≡ s
  face before zero after h g k = rw below_w (into_jam _ (above_w before))
  face before (suc zero) after h g k = rw above_l (from_jam _ (below_l after (k refl)))
  face before (suc (suc zero)) after h g k = rw (above_d before (λ e. g e refl)) (from_empty _)
  face before (suc (suc (suc s))) after h g k = absurd (omega arith)

  -- the word of the state, from a face on
  word_again : (before s : ℕ) (ss : List ℕ) → Legal before (s ∷ ss)
      → word_of r (between r before s) (downstream_of r (s ∷ ss)) (cells_of r (s ∷ ss)) ≡ s ∷ ss
  unfolding word_of downstream_of cells_of
  word_again before s [] (one e p) =
      let f = (may_follow before s).0 e in
      ap {B = List ℕ} (λ x. x ∷ []) (face before s letter_d f.known f.no_d_after_w (λ _ d. absurd (omega arith)))
  word_again before s (t ∷ ss) (one e (one g p)) =
      let f = (may_follow before s).0 e in
      ap₂ ◌∷◌ (face before s t f.known f.no_d_after_w ((may_follow s t).0 g).no_l_after_l) (word_again s t ss (one g p))

  downstream_jam : (word : List ℕ) → downstream_of r word ≤ r.jam
  unfolding downstream_of
  downstream_jam [] = zero-le
  downstream_jam (s ∷ []) = between_jam s letter_d
  downstream_jam (s ∷ t ∷ ss) = downstream_jam (t ∷ ss)

  cells_jam : (word : List ℕ) (i : ℕ) → get_or (cells_of r word) i 0 ≤ r.jam
  unfolding cells_of
  cells_jam [] i = zero-le
  cells_jam (s ∷ []) i = zero-le
  cells_jam (s ∷ t ∷ ss) zero = between_jam s t
  cells_jam (s ∷ t ∷ ss) (suc i) = cells_jam (t ∷ ss) i

  cells_length : (s : ℕ) (ss : List ℕ) → length (cells_of r (s ∷ ss)) ≡ length ss
  unfolding cells_of
  cells_length s [] = refl
  cells_length s (t ∷ ss) = ap suc (cells_length t ss)

  -- every legal word occurs, one of a single letter too, by the two ends alone
  pub occurs : (word : List ℕ) → legal word ≡ true → 1 ≤ length word → Occurs r word
  unfolding upstream_of
  occurs [] e h = absurd (not-suc-le-zero h)
  occurs (s ∷ ss) e h = record {
    same = word_again letter_d s ss ((legal_word (s ∷ ss)).0 e);
    cells = omega (arith, cells_length s ss);
    upstream = between_jam letter_d s;
    downstream = downstream_jam (s ∷ ss);
    below = cells_jam (s ∷ ss);
  }
