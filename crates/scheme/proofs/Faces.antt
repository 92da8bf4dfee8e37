-- Faces one by one: face k lies between cells k and k+1, the ghost cells standing at 0 and n+1.
use mathlib.Core.Path.{◌≡◌, ◌∙◌, refl, sym, ap}
use mathlib.Core.Bool.{true}
use mathlib.Core.Logic.{◌↔◌}
use mathlib.Core.List.{List, [], ◌∷◌}
use Prim.Native.Nat.{ℕ, zero, suc, ◌+◌, ◌≤◌, ◌<◌}
use native.Mathlib.Nat.{le_of_suc-le-suc, not-suc-le-zero, add-zero, zero-add, add-suc, suc-add}
use native.Mathlib.Omega.{arith}
use lib.ListN.{length, get_or}
use Rattle.road.specs.declared.Road.{Road}
use Rattle.flux.specs.Face.{letter}
use Rattle.scheme.specs.Advance.{ahead, outflow, flows, entering, leaving, stepped, padded, face_flows}
use Rattle.scheme.specs.Sums.{sum}
use Rattle.scheme.specs.Partners.{Lawful}
use Rattle.scheme.specs.Word.{word_of}
use Rattle.scheme.specs.Rounded.{round_step}
use Rattle.scheme.specs.Settling.{still}
use Rattle.scheme.proofs.Lists.{same_lists, lists_same}
use Rattle.scheme.proofs.Range.{stepped_cell}

-- a word is n+1 letters, and letter k is that of face k
pub word_length : (r : Road) (up down : ℕ) (xs : List ℕ) → length (word_of r up down xs) ≡ suc (length xs)
unfolding word_of
word_length r up down [] = refl
word_length r up down (x ∷ xs) = ap suc (word_length r x down xs)

pub word_letter : (r : Road) (up down : ℕ) (xs : List ℕ) (k : ℕ) → k ≤ length xs
    → get_or (word_of r up down xs) k 0 ≡ letter r (get_or (padded up down xs) k 0) (get_or (padded up down xs) (suc k) 0)
unfolding word_of padded
word_letter r up down [] zero h = refl
word_letter r up down [] (suc k) h = absurd (not-suc-le-zero h)
word_letter r up down (x ∷ xs) zero h = refl
word_letter r up down (x ∷ xs) (suc k) h = word_letter r x down xs k (le_of_suc-le-suc h)

module _ (F : ℕ → ℕ → ℕ → ℕ) where
  -- along the list, l being the density to its left
  flow_from : (i l d : ℕ) (xs : List ℕ) (k : ℕ) → k ≤ length xs
      → get_or (flows F (suc i) (F i l (ahead d xs)) d xs) k 0 ≡ F (i + k) (get_or (padded l d xs) k 0) (get_or (padded l d xs) (suc k) 0)
  unfolding flows padded ahead
  flow_from i l d [] zero h = ap (λ (n : ℕ). F n l d) (sym (add-zero i))
  flow_from i l d [] (suc k) h = absurd (not-suc-le-zero h)
  flow_from i l d (x ∷ xs) zero h = ap (λ (n : ℕ). F n l x) (sym (add-zero i))
  flow_from i l d (x ∷ xs) (suc k) h =
      flow_from (suc i) x d xs k (le_of_suc-le-suc h)
      ∙ ap (λ (n : ℕ). F n (get_or (padded x d xs) k 0) (get_or (padded x d xs) (suc k) 0)) (suc-add i k ∙ sym (add-suc i k))

  -- flow k is the flow of face k, all worked from the old densities
  pub flow_at_face : (up down : ℕ) (xs : List ℕ) (k : ℕ) → k ≤ length xs
      → get_or (face_flows F up down xs) k 0 ≡ F k (get_or (padded up down xs) k 0) (get_or (padded up down xs) (suc k) 0)
  unfolding face_flows entering
  flow_at_face up down xs k h =
      flow_from 0 up down xs k h ∙ ap (λ (n : ℕ). F n (get_or (padded up down xs) k 0) (get_or (padded up down xs) (suc k) 0)) (zero-add k)

  last_from : (i w d : ℕ) (xs : List ℕ) → outflow F i w d xs ≡ get_or (flows F i w d xs) (length xs) 0
  unfolding outflow flows
  last_from i w d [] = refl
  last_from i w d (x ∷ xs) = last_from (suc i) (F i x (ahead d xs)) d xs

  -- what enters is the flow over face 0, what leaves that over face n
  pub enters_first : (up down : ℕ) (xs : List ℕ) → entering F up down xs ≡ get_or (face_flows F up down xs) 0 0
  unfolding face_flows flows
  enters_first up down [] = refl
  enters_first up down (x ∷ xs) = refl

  pub leaves_last : (up down : ℕ) (xs : List ℕ) → leaving F up down xs ≡ get_or (face_flows F up down xs) (length xs) 0
  unfolding face_flows leaving
  leaves_last up down xs = last_from 1 (entering F up down xs) down xs

-- two lawful flows that agree at the faces of a cell give the same cell, whatever they are elsewhere
pub same_cell : {m j c : ℕ} {F G : ℕ → ℕ → ℕ → ℕ} → Lawful m j c F → Lawful m j c G → (up down : ℕ) (xs : List ℕ) (k : ℕ) → k < length xs
    → F k (get_or (padded up down xs) k 0) (get_or (padded up down xs) (suc k) 0) ≡ G k (get_or (padded up down xs) k 0) (get_or (padded up down xs) (suc k) 0)
    → F (suc k) (get_or (padded up down xs) (suc k) 0) (get_or (padded up down xs) (suc (suc k)) 0) ≡ G (suc k) (get_or (padded up down xs) (suc k) 0) (get_or (padded up down xs) (suc (suc k)) 0)
    → get_or (stepped m F up down xs) k 0 ≡ get_or (stepped m G up down xs) k 0
unfolding face_flows
same_cell {F = F} {G = G} lawful lawful' up down xs k h left right =
    omega (
      arith,
      stepped_cell lawful up down xs k h,
      stepped_cell lawful' up down xs k h,
      flow_at_face F up down xs k (omega arith),
      flow_at_face G up down xs k (omega arith),
      flow_at_face F up down xs (suc k) h,
      flow_at_face G up down xs (suc k) h,
      left,
      right,
    )

-- a step is still exactly when it keeps the list of cells
pub still_means : (r : Road) (caps : List ℕ) (up down : ℕ) (xs : List ℕ) → (still r caps up down xs ≡ true) ↔ (round_step r caps up down xs ≡ xs)
unfolding still
still_means r caps up down xs = (λ e. sym (same_lists xs (round_step r caps up down xs) e), λ e. rw e (lists_same xs))

-- so it keeps the letter at every face and the sum of the cells, which is document 01's still: no run stops sooner than by that one
pub still_keeps : (r : Road) (caps : List ℕ) (up down : ℕ) (xs : List ℕ) → still r caps up down xs ≡ true
    → (word_of r up down (round_step r caps up down xs) ≡ word_of r up down xs) × (sum (round_step r caps up down xs) ≡ sum xs)
still_keeps r caps up down xs e = let same = (still_means r caps up down xs).0 e in (ap (word_of r up down) same, ap sum same)
