-- The settling run: one end pair for all steps, up to the first still step (document 01, "Step, forecast and settling"), still as document 02, E8, has it.
use Rattle.std.specs.Prelude.{◌≡◌, Bool, true, false, List, ℕ, zero, suc, ◌<◌}
use Rattle.choice.specs.Choice.{pick}
use Rattle.road.specs.declared.Road.{Road}
use Rattle.scheme.specs.Sums.{same_list}
use Rattle.scheme.specs.Runs.{iterated}
use Rattle.scheme.specs.Rounded.{round_step}

-- "A step is now still exactly when every single density is kept" (document 02, E8): number by number, under the caps. It replaces document 01's still, which asked for the letters and the sum
unfoldable pub still : Road → List ℕ → ℕ → ℕ → List ℕ → Bool
still r caps up down xs = same_list xs (round_step r caps up down xs)

-- the cells after k steps with the one end pair
abbrev pub after : Road → List ℕ → ℕ → ℕ → ℕ → List ℕ → List ℕ
after r caps up down k xs = iterated (round_step r caps up down) k xs

-- a search along the steps S for a state that a test finds, among the first t: whether there is one, and the steps to the first, else t
unfoldable pub finds : (List ℕ → List ℕ) → (List ℕ → Bool) → ℕ → List ℕ → Bool
finds S test zero xs = false
finds S test (suc t) xs = pick (test xs) true (finds S test t (S xs))

unfoldable pub steps_to : (List ℕ → List ℕ) → (List ℕ → Bool) → ℕ → List ℕ → ℕ
steps_to S test zero xs = 0
steps_to S test (suc t) xs = pick (test xs) 0 (suc (steps_to S test t (S xs)))

-- settled: some step of the first T is still
unfoldable pub settles : Road → List ℕ → ℕ → ℕ → ℕ → List ℕ → Bool
unfolding finds
settles r caps up down = finds (round_step r caps up down) (still r caps up down)

-- the steps made: the least k below T such that step k+1 is still, else T
unfoldable pub settle_steps : Road → List ℕ → ℕ → ℕ → ℕ → List ℕ → ℕ
unfolding steps_to
settle_steps r caps up down = steps_to (round_step r caps up down) (still r caps up down)

-- the state handed back: the one after those steps
unfoldable pub settle_cells : Road → List ℕ → ℕ → ℕ → ℕ → List ℕ → List ℕ
settle_cells r caps up down t xs = after r caps up down (settle_steps r caps up down t xs) xs

-- what a report of k steps means: the test finds none of the states before; settled says that it finds the one after k steps, with k below t; unsettled that k is t
pub record Least (S : List ℕ → List ℕ) (test : List ℕ → Bool) (t : ℕ) (xs : List ℕ) (settled : Bool) (k : ℕ) : Type 0 where
  pub before : (j : ℕ) → j < k → test (iterated S j xs) ≡ false
  pub within : settled ≡ true → k < t
  pub found : settled ≡ true → test (iterated S k xs) ≡ true
  pub none : settled ≡ false → k ≡ t

-- none of the first k steps is still, and step k+1 is, or k is T
abbrev pub LeastStill : Road → List ℕ → ℕ → ℕ → ℕ → List ℕ → Bool → ℕ → Type 0
LeastStill r caps up down = Least (round_step r caps up down) (still r caps up down)
