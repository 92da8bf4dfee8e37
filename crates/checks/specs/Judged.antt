-- The state that a judgement hands on.
use Rattle.std.specs.Prelude.{◌≡◌, List, ℕ}
use Rattle.road.specs.declared.Road.{Road}
use Rattle.checks.specs.declared.accepted.AcceptedState.{AcceptedState}

-- it is of this road, these cells and this end pair
pub record IsState (s : AcceptedState) (r : Road) (xs : List ℕ) (a b : ℕ) : Type 0 where
  pub road : s.road.road ≡ r
  pub cells : s.cells.now ≡ xs
  pub up : s.up ≡ a
  pub down : s.down ≡ b
