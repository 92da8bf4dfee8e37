-- Room for the totals, for a site as it is: it begins again from measured cells, on whatever road, meets refusals, and carries its totals on from 0.
use Rattle.std.specs.Prelude.{◌≡◌, List, [], ◌∷◌, ℕ, ◌+◌, ◌≤◌}
use Rattle.scheme.specs.declared.many_steps.Totals.{Totals}
use Rattle.forecast.specs.Answers.{ForecastAnswer}
use Rattle.refusal.specs.Answer.{Done, Refused}
use Rattle.forecast.specs.Forecast.{meaning}
use Rattle.forecast.specs.Chain.{Call, Site, answer_to, after_call}
use Rattle.forecast.specs.ForEver.{lifetime}

-- a forecast with the cells that it is given
pub record Measured : Type 0 where
  pub cells : List ℕ
  pub call : Call

-- where it is made, with the totals so far
abbrev pub made_at : Totals → Measured → Site
made_at totals m = record { cells = m.cells; totals = totals }

-- the totals after it, a refused one altering nothing; and after all of a list
abbrev pub totals_after : Totals → Measured → Totals
totals_after totals m = (after_call (made_at totals m) m.call).totals

unfoldable pub carried_by : Totals → List Measured → Totals
carried_by totals [] = totals
carried_by totals (m ∷ ms) = carried_by (totals_after totals m) ms

-- the steps that an answer stands for: the horizon's of an accepted call, none of a refused one
abbrev pub steps_of : ForecastAnswer → ℕ → ℕ
steps_of (Done d) t = t
steps_of (Refused f) t = 0

unfoldable pub steps_made : Totals → List Measured → ℕ
steps_made totals [] = 0
steps_made totals (m ∷ ms) = steps_of (answer_to (made_at totals m) m.call) m.call.horizon + steps_made (totals_after totals m) ms

abbrev pub from_none : Totals
from_none = record { entered = 0; left = 0 }

-- after any calls whose totals are carried on from 0, a further one is not refused with 19 while the accepted ones and itself make at most 18,446,744,073,709 steps together
abbrev pub RoomLeft : List Measured → Measured → Type 0
RoomLeft before m =
    steps_made from_none before + m.call.horizon ≤ lifetime → (meaning (answer_to (made_at (carried_by from_none before) m) m.call)).number ≡ 19 → ⊥
