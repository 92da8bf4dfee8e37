-- The judgement of a state, which reading, ranking, fit test and row prediction share: the checks of a road, of its cells and of one end pair, beside that of the call's outputs.
use Rattle.std.specs.Prelude.{Bool, List, [], ◌∷◌, ◌++◌, ℕ, ◌≤◌, length, get_or}
use Rattle.refusal.specs.Table.{Check, check, judge}
use Rattle.refusal.specs.Outcome.{Outcome}
use Rattle.road.specs.Ceilings.{cells_ceiling}
use Rattle.road.specs.Judgement.{road_checks, Accepted}
use Rattle.road.specs.declared.Road.{Road}
use Rattle.checks.specs.Checks.{cells_check, pair_checks}

-- the shape, which is judged before any density is read: 1 to 5, then 8 of a call that has outputs
abbrev pub state_shape_checks : Road → ℕ → List Check → List Check
state_shape_checks r n outputs = road_checks r ++ (cells_check n ∷ outputs)

-- "1–5 and 8–11", or without 8
abbrev pub state_checks : Road → List ℕ → ℕ → ℕ → List Check → List Check
state_checks r cells up down outputs = state_shape_checks r (length cells) outputs ++ pair_checks r cells up down

-- what they come to, where it is known whether the outputs are bad
unfoldable pub state_shape_refusal : Road → ℕ → Bool → Outcome
state_shape_refusal r n bad = judge (state_shape_checks r n (check bad 8 0 ∷ []))

unfoldable pub state_refusal : Road → List ℕ → ℕ → ℕ → Bool → Outcome
state_refusal r cells up down bad = judge (state_checks r cells up down (check bad 8 0 ∷ []))

-- what a state is that they let through
pub record StateChecked (r : Road) (cells : List ℕ) (up down : ℕ) : Type 0 where
  pub accepted : Accepted r
  pub cells_low : 1 ≤ length cells
  pub cells_high : length cells ≤ cells_ceiling
  pub cells_below : (i : ℕ) → get_or cells i 0 ≤ r.jam
  pub up_below : up ≤ r.jam
  pub down_below : down ≤ r.jam
