-- Legality: letter by letter, what the first offence says of a word, and that the word of every state is legal.
use mathlib.Core.Path.{◌≡◌, refl, ap, sym, ◌∙◌, subst₂}
use mathlib.Core.Logic.{◌↔◌}
use mathlib.Core.Bool.{Bool, true, false, true≢false}
use mathlib.Core.List.{List, [], ◌∷◌}
use Prim.Native.Nat.{ℕ, zero, suc, ◌≤◌, ◌<◌, zero-le, suc-le-suc}
use native.Mathlib.Nat.{suc_inj, le_of_suc-le-suc, not-suc-le-zero}
use native.Mathlib.Omega.{arith}
use lib.ListN.{length, get_or}
use lib.Dec.{ltb, eqb}
use borrow.Author.Tests.{ltb-false, le-ltb, eqb-true, eq-eqb}
use Rattle.choice.specs.Choice.{pick, both}
use Rattle.road.specs.Judgement.{Accepted}
use Rattle.road.specs.declared.Road.{Road}
use Rattle.choice.proofs.Choice.{or_left}
use Rattle.flux.specs.Face.{letter_w, letter_l, letter_d, letter}
use Rattle.flux.proofs.Letters.{one_letter, no_w_d, no_l_l}
use Rattle.scheme.specs.Word.{word_of}
use Rattle.words.specs.Words.{illegal_pair, offends, first_offence, legal}
use Rattle.words.specs.Places.{offends_at}

-- a letter that may stand after another: it is known, and is no D after W and no L after L
pub record Follows (before s : ℕ) : Type 0 where
  pub known : s ≤ letter_d
  pub no_d_after_w : before ≡ letter_w → s ≡ letter_d → ⊥
  pub no_l_after_l : before ≡ letter_l → s ≡ letter_l → ⊥

not_both : (a b : Bool) → (a ≡ true → b ≡ true → ⊥) → both a b ≡ false
not_both true true h = absurd (h refl refl)
not_both true false h = refl
not_both false b h = refl

never_both : (a b c d : ℕ) → (a ≡ b → c ≡ d → ⊥) → both (eqb a b) (eqb c d) ≡ false
never_both a b c d h = not_both (eqb a b) (eqb c d) (λ p q. h (eqb-true a b p) (eqb-true c d q))

-- a face does not offend exactly when its letter may stand after the one before it
pub may_follow : (before s : ℕ) → (offends before s ≡ false) ↔ Follows before s
unfolding offends illegal_pair
may_follow before s = (to, from)
  where
    unlike : (b t : ℕ) → offends b t ≡ true → offends before s ≡ false → before ≡ b → s ≡ t → ⊥
    unlike b t e f p q = true≢false (sym e ∙ subst₂ (λ x y. offends x y ≡ false) p q f)

    to : offends before s ≡ false → Follows before s
    to e = record {
      known = ltb-false letter_d s (or_left (ltb letter_d s) (illegal_pair before s) e);
      no_d_after_w = unlike letter_w letter_d refl e;
      no_l_after_l = unlike letter_l letter_l refl e;
    }

    from : Follows before s → offends before s ≡ false
    from f = simp (le-ltb _ _ f.known, never_both _ _ _ _ f.no_d_after_w, never_both _ _ _ _ f.no_l_after_l)

-- a word whose every letter may stand after the one before it, the first after a given letter
pub data Legal : ℕ → List ℕ → Type 0 where
  none : {before : ℕ} → Legal before []
  one : {before s : ℕ} {ss : List ℕ} → offends before s ≡ false → Legal s ss → Legal before (s ∷ ss)

pick_bound : (b : Bool) (m n : ℕ) → m ≤ n → pick b 0 (suc m) ≤ suc n
pick_bound true m n h = zero-le
pick_bound false m n h = suc-le-suc h

pick_full : (b : Bool) (m n : ℕ) → pick b 0 (suc m) ≡ suc n → (b ≡ false) × (m ≡ n)
pick_full true m n e = absurd (omega arith)
pick_full false m n e = (refl, suc_inj e)

pick_past : (b : Bool) (i m : ℕ) → i < pick b 0 (suc m) → (b ≡ false) × (i ≤ m)
pick_past true i m h = absurd (not-suc-le-zero h)
pick_past false i m h = (refl, le_of_suc-le-suc h)

-- the first offence is a face of the word, or the word's length
pub first_bound : (before : ℕ) (word : List ℕ) → first_offence before word ≤ length word
unfolding first_offence
first_bound before [] = zero-le
first_bound before (s ∷ ss) = pick_bound (offends before s) (first_offence s ss) (length ss) (first_bound s ss)

-- no face before it offends
pub first_past : (before : ℕ) (word : List ℕ) (i : ℕ) → i < first_offence before word → offends_at before word i ≡ false
unfolding first_offence
first_past before [] i h = absurd (not-suc-le-zero h)
first_past before (s ∷ ss) zero h = (pick_past (offends before s) 0 (first_offence s ss) h).0
first_past before (s ∷ ss) (suc i) h = first_past s ss i (pick_past (offends before s) (suc i) (first_offence s ss) h).1

-- the face there offends
pub first_at : (before : ℕ) (word : List ℕ) → first_offence before word < length word
    → offends_at before word (first_offence before word) ≡ true
unfolding first_offence
first_at before [] h = absurd (not-suc-le-zero h)
first_at before (s ∷ ss) h = by_test (offends before s) refl (first_at s ss) h
  where
    by_test : (b : Bool) → offends before s ≡ b → (first_offence s ss < length ss → offends_at s ss (first_offence s ss) ≡ true)
        → pick b 0 (suc (first_offence s ss)) < suc (length ss) → offends_at before (s ∷ ss) (pick b 0 (suc (first_offence s ss))) ≡ true
    by_test true e ih h = e
    by_test false e ih h = ih (le_of_suc-le-suc h)

-- and these two facts say which face it is
pub first_is : (before : ℕ) (word : List ℕ) (k : ℕ) → k ≤ length word
    → ((i : ℕ) → i < k → offends_at before word i ≡ false) → (k < length word → offends_at before word k ≡ true)
    → first_offence before word ≡ k
unfolding first_offence
first_is before [] k h past at = omega arith
first_is before (s ∷ ss) zero h past at = rw (at (suc-le-suc zero-le))
first_is before (s ∷ ss) (suc k) h past at =
    rw (past 0 (suc-le-suc zero-le))
    (ap suc (first_is s ss k (le_of_suc-le-suc h) (λ i g. past (suc i) (suc-le-suc g)) (λ g. at (suc-le-suc g))))

-- a word is legal after a letter exactly when its first offence is its length
to_legal : (before : ℕ) (word : List ℕ) → first_offence before word ≡ length word → Legal before word
unfolding first_offence
to_legal before [] e = none
to_legal before (s ∷ ss) e =
    let (allowed, rest) = pick_full (offends before s) (first_offence s ss) (length ss) e in
    one allowed (to_legal s ss rest)

of_legal : {before : ℕ} {word : List ℕ} → Legal before word → first_offence before word ≡ length word
unfolding first_offence
of_legal none = refl
of_legal (one e p) = rw e (ap suc (of_legal p))

-- the test of legality holds of the legal words
pub legal_word : (word : List ℕ) → (legal word ≡ true) ↔ Legal letter_d word
unfolding legal
legal_word word = (
  λ e. to_legal letter_d word (eqb-true (first_offence letter_d word) (length word) e),
  λ p. eq-eqb (first_offence letter_d word) (length word) (of_legal p),
)

-- a list of known letters; past its end there is nothing to know
abbrev pub Known : List ℕ → Type 0
Known word = (i : ℕ) → get_or word i 0 ≤ letter_d

-- the letters of a legal word are known
pub legal_known : {before : ℕ} {word : List ℕ} → Legal before word → Known word
legal_known none i = zero-le
legal_known (one {before} {s} e p) zero = ((may_follow before s).0 e).known
legal_known (one e p) (suc i) = legal_known p i

-- the letters of neighbouring faces may follow each other
module _ (r : Road) (ok : Accepted r) where
  any_first : (a b : ℕ) → offends letter_d (letter r a b) ≡ false
  any_first a b = (may_follow letter_d (letter r a b)).1
      (record { known = (one_letter r ok a b).known; no_d_after_w = λ e. absurd (omega arith); no_l_after_l = λ e. absurd (omega arith) })

  pub neighbours : (a b c : ℕ) → offends (letter r a b) (letter r b c) ≡ false
  neighbours a b c = (may_follow (letter r a b) (letter r b c)).1
      (record { known = (one_letter r ok b c).known; no_d_after_w = no_w_d r ok a b c; no_l_after_l = no_l_l r ok a b c })

  word_after : (before up down : ℕ) (xs : List ℕ) → ((x : ℕ) → offends before (letter r up x) ≡ false)
      → Legal before (word_of r up down xs)
  unfolding word_of
  word_after before up down [] h = one (h down) none
  word_after before up down (x ∷ xs) h = one (h x) (word_after (letter r up x) x down xs (neighbours up x))

  -- the word of every state is legal
  pub word_legal : (up down : ℕ) (xs : List ℕ) → legal (word_of r up down xs) ≡ true
  word_legal up down xs = (legal_word (word_of r up down xs)).1 (word_after letter_d up down xs (any_first up))
