-- What the places of 9, 10 and 11 mean: the density there is above jam, and no earlier one is.
use Rattle.std.specs.Prelude.{◌≡◌, List, ℕ, ◌+◌}
use Rattle.road.specs.declared.Road.{Road}
use Rattle.refusal.specs.Outcome.{Outcome}
use Rattle.checks.specs.Values.{FirstAbove}

-- cells are numbered from 1, ends from 0
pub record Placed (r : Road) (cells ups downs : List ℕ) (f : Outcome) : Type 0 where
  pub cell : f.number ≡ 9 → (k : ℕ) × (f.place ≡ k + 1) × FirstAbove r.jam cells k
  pub up : f.number ≡ 10 → FirstAbove r.jam ups f.place
  pub down : f.number ≡ 11 → FirstAbove r.jam downs f.place
