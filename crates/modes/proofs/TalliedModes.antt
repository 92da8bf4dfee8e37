-- The modes of a state and their tally: n modes, each one of the seven; the seven counts sum to n, and the queued number agrees with them.
use mathlib.Core.Path.{◌≡◌, refl, ◌∙◌}
use mathlib.Core.Bool.{Bool}
use mathlib.Core.List.{List, [], ◌∷◌}
use Prim.Native.Nat.{ℕ, zero, suc, ◌+◌, ◌-◌, ◌≤◌, suc-le-suc, zero-le}
use native.Mathlib.Nat.{le_of_suc-le-suc, not-suc-le-zero, lt_of_not-le}
use native.Mathlib.Decide.{dec_le}
use native.Mathlib.Omega.{arith}
use lib.Dec.{T, eqb, ltb, eqb→eq}
use lib.ListN.{length}
use borrow.Author.Tests.{ne_eqb, le-ltb, lt-ltb}
use Rattle.choice.specs.Choice.{pick, or}
use Rattle.choice.proofs.Grid.{upto, grid_at}
use Rattle.road.specs.Judgement.{Accepted}
use Rattle.road.specs.declared.Road.{Road}
use Rattle.flux.specs.Face.{letter_w, letter_l, letter_d, letter}
use Rattle.flux.proofs.Letters.{one_letter}
use Rattle.scheme.specs.Sums.{sum}
use Rattle.scheme.specs.Word.{word_of}
use Rattle.scheme.proofs.Faces.{word_length}
use Rattle.modes.specs.Modes.{mode_of, modes_of}
use Rattle.modes.specs.Reading.{count_of, counts_of, queued_of, Numbered, SignsAgree}
use Rattle.words.proofs.Legal.{Known, legal_known, legal_word, word_legal}
use Rattle.modes.proofs.ModeRange.{mode_range}
use Rattle.modes.proofs.Seven.{each_mode}

-- a cell for each two neighbouring letters
pub modes_length : (word : List ℕ) → length (modes_of word) ≡ length word - 1
unfolding modes_of
modes_length [] = omega arith
modes_length (s ∷ []) = omega arith
modes_length (s ∷ t ∷ ss) = let more = modes_length (t ∷ ss) in omega arith

-- known letters have modes of the seven
pub modes_numbered : (word : List ℕ) → Known word → Numbered (modes_of word)
unfolding modes_of
modes_numbered [] known i h = absurd (not-suc-le-zero h)
modes_numbered (s ∷ []) known i h = absurd (not-suc-le-zero h)
modes_numbered (s ∷ t ∷ ss) known zero h = mode_range s t (known 0) (known 1)
modes_numbered (s ∷ t ∷ ss) known (suc i) h = modes_numbered (t ∷ ss) (λ k. known (suc k)) i (le_of_suc-le-suc h)

-- a mode whose cell exceeds C, and one whose cell does not; mode 5 is neither
abbrev above : ℕ → ℕ
above m = pick (eqb m 1) 1 0 + pick (eqb m 2) 1 0 + pick (eqb m 6) 1 0

abbrev within : ℕ → ℕ
within m = pick (eqb m 3) 1 0 + pick (eqb m 4) 1 0 + pick (eqb m 7) 1 0

-- every mode is counted in one place
counted_once : (m : ℕ) → 1 ≤ m → m ≤ 7 → above m + within m + pick (eqb m 5) 1 0 ≡ 1
counted_once = each_mode (λ m. above m + within m + pick (eqb m 5) 1 0 ≡ 1) refl refl refl refl refl refl refl

-- the seven counts sum to the number of modes
pub counts_sum : (ms : List ℕ) → Numbered ms → sum (counts_of ms) ≡ length ms
unfolding sum counts_of count_of
counts_sum [] known = refl
counts_sum (m ∷ ms) known =
    let (low, high) = known 0 (suc-le-suc zero-le) in
    omega (arith, counted_once m low high, counts_sum ms (λ i h. known (suc i) (suc-le-suc h)))

-- whether f counts the mode of two letters only where one of them is the given one; antt computes it of every pair
tested : ℕ → ℕ → (ℕ → ℕ) → ℕ → ℕ → Bool
tested left right f s t = or (or (eqb s left) (eqb t right)) (eqb (f (mode_of s t)) 0)

-- a cell's mode and its part of the queued number, 1 or 0
abbrev Signed : ℕ → ℕ → Type 0
Signed m q = (above m ≤ q) × (q ≤ above m + pick (eqb m 5) 1 0)

one_cell_more : (m q : ℕ) (ms : List ℕ) (queued : ℕ) → Signed m q → SignsAgree ms queued → SignsAgree (m ∷ ms) (q + queued)
unfolding count_of
one_cell_more m q ms queued (low, high) rest = record { least = omega (arith, rest.least); most = omega (arith, rest.most) }

module _ (r : Road) (ok : Accepted r) where
  -- a cell between its neighbours, and its mode
  module _ (a x b : ℕ) where
    abbrev own : ℕ
    own = mode_of (letter r a x) (letter r x b)

    none_of : (left right : ℕ) (f : ℕ → ℕ) → T (upto 3 (λ i. upto 3 (tested left right f i))) → (letter r a x ≡ left → ⊥) → (letter r x b ≡ right → ⊥) → f own ≡ 0
    unfolding tested
    none_of left right f all p q =
        let all-pairs = grid_at 3 3 (tested left right f) all (letter r a x) (letter r x b) in
        let here = all-pairs (suc-le-suc (one_letter r ok a x).known) (suc-le-suc (one_letter r ok x b).known) in
        eqb→eq (f own) 0 (rw (ne_eqb (letter r a x) left p, ne_eqb (letter r x b) right q) at here)

    -- W to its left or L to its right needs it above C, L to its left or D to its right needs it not above
    not_above : x ≤ r.critical → above own ≡ 0
    unfolding tested mode_of
    not_above h =
        none_of letter_w letter_l above tt (λ e. let w = ((one_letter r ok a x).W.0 e).0 in omega arith) (λ e. let l = ((one_letter r ok x b).L.0 e).0 in omega arith)

    not_within : (x ≤ r.critical → ⊥) → within own ≡ 0
    unfolding tested mode_of
    not_within n = none_of letter_l letter_d within tt (λ e. n ((one_letter r ok a x).L.0 e).1) (λ e. n ((one_letter r ok x b).D.0 e).0)

    cell_signs : Signed own (pick (ltb r.critical x) 1 0)
    cell_signs = by_density (dec_le x r.critical)
      where
        by_density : Dec (x ≤ r.critical) → Signed own (pick (ltb r.critical x) 1 0)
        by_density (yes h) = let none = not_above h in rw (le-ltb _ _ h) (omega arith, zero-le)
        by_density (no n) =
            let (low, high) = mode_range (letter r a x) (letter r x b) (one_letter r ok a x).known (one_letter r ok x b).known in
            let once = counted_once own low high in
            let none = not_within n in
            rw (lt-ltb _ _ (lt_of_not-le n)) (omega arith, omega arith)

  pub signs_agree : (up down : ℕ) (cells : List ℕ) → SignsAgree (modes_of (word_of r up down cells)) (queued_of r.critical cells)
  unfolding modes_of word_of count_of queued_of
  signs_agree up down [] = record { least = zero-le; most = zero-le }
  signs_agree up down (x ∷ []) = one_cell_more _ _ _ _ (cell_signs up x down) (signs_agree x down [])
  signs_agree up down (x ∷ y ∷ ys) = one_cell_more _ _ _ _ (cell_signs up x y) (signs_agree x down (y ∷ ys))

-- of a state on an accepted road
module _ (r : Road) (up down : ℕ) (cells : List ℕ) where
  pub state_modes_length : length (modes_of (word_of r up down cells)) ≡ length cells
  state_modes_length =
      let letters = word_length r up down cells in
      let modes = modes_length (word_of r up down cells) in
      omega arith

  module _ (ok : Accepted r) where
    pub state_numbered : Numbered (modes_of (word_of r up down cells))
    state_numbered = modes_numbered (word_of r up down cells) (legal_known ((legal_word (word_of r up down cells)).0 (word_legal r ok up down cells)))

    pub state_counts_sum : sum (counts_of (modes_of (word_of r up down cells))) ≡ length cells
    state_counts_sum = counts_sum (modes_of (word_of r up down cells)) state_numbered ∙ state_modes_length
