-- Each cell's new number is m times its old one, plus what comes in, less what goes out, and stays from 0 to m times jam.
use mathlib.Core.Path.{◌≡◌}
use mathlib.Core.List.{List, [], ◌∷◌}
use Prim.Native.Nat.{ℕ, zero, suc, ◌+◌, ◌-◌, ◌*◌, ◌≤◌, ◌<◌, zero-le}
use native.Mathlib.Nat.{one-mul, mul-sub, mul-le-mul_left, not-suc-le-zero, le_of_suc-le-suc}
use native.Mathlib.Omega.{arith}
use lib.ListN.{length, get_or}
use Rattle.scheme.specs.Advance.{ahead, advance, flows, entering, stepped}
use Rattle.scheme.specs.Sums.{Below}
use Rattle.scheme.specs.Partners.{Lawful}
use Rattle.scheme.proofs.Shape.{flows_first}

module _ {m j c : ℕ} {F : ℕ → ℕ → ℕ → ℕ} (laws : Lawful m j c F) where
  -- no difference is cut off at 0, for no cell sends more than it holds
  pub advance_cell : (i w d : ℕ) (xs : List ℕ) (k : ℕ) → k < length xs
      → get_or (advance m F i w d xs) k 0 + get_or (flows F i w d xs) (suc k) 0 ≡ m * get_or xs k 0 + get_or (flows F i w d xs) k 0
  unfolding advance flows
  advance_cell i w d [] k h = absurd (not-suc-le-zero h)
  advance_cell i w d (x ∷ xs) zero h =
      omega (arith, (laws i).send x (ahead d xs), flows_first F (suc i) (F i x (ahead d xs)) d xs)
  advance_cell i w d (x ∷ xs) (suc k) h = advance_cell (suc i) (F i x (ahead d xs)) d xs k (le_of_suc-le-suc h)

  pub stepped_cell : (u d : ℕ) (xs : List ℕ) (k : ℕ) → k < length xs
      → get_or (stepped m F u d xs) k 0 + get_or (flows F 1 (entering F u d xs) d xs) (suc k) 0
      ≡ m * get_or xs k 0 + get_or (flows F 1 (entering F u d xs) d xs) k 0
  unfolding stepped
  stepped_cell u d xs k h = advance_cell 1 (entering F u d xs) d xs k h

  -- what comes in is no more than the cell has room for
  pub advance_below : (i w d : ℕ) (xs : List ℕ) → Below j xs → w ≤ m * (j - ahead d xs) → Below (m * j) (advance m F i w d xs)
  unfolding advance ahead
  advance_below i w d [] h room k = zero-le
  advance_below i w d (x ∷ xs) h room zero = omega (arith, mul-sub m j x, mul-le-mul_left m (h 0))
  advance_below i w d (x ∷ xs) h room (suc k) =
      advance_below (suc i) (F i x (ahead d xs)) d xs (λ n. h (suc n)) ((laws i).room x (ahead d xs)) k

  pub stepped_below : (u d : ℕ) (xs : List ℕ) → Below j xs → Below (m * j) (stepped m F u d xs)
  unfolding stepped entering
  stepped_below u d xs h = advance_below 1 (entering F u d xs) d xs h ((laws 0).room u (ahead d xs))

-- with multiplier 1 no face moves more than the upstream cell holds, nor more than the downstream one has room for
module _ {j c : ℕ} {F : ℕ → ℕ → ℕ → ℕ} (laws : Lawful 1 j c F) where
  pub out_holds : (i a b : ℕ) → F i a b ≤ a
  out_holds i a b = rw one-mul at ((laws i).send a b)

  pub in_room : (i a b : ℕ) → b ≤ j → b + F i a b ≤ j
  in_room i a b h = omega (arith, (laws i).room a b)

  pub steps_below : (u d : ℕ) (xs : List ℕ) → Below j xs → Below j (stepped 1 F u d xs)
  steps_below u d xs h i = rw one-mul at (stepped_below laws u d xs h i)
