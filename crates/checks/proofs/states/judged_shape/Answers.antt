-- `checks::judged_shape` meets its contract: a refusal of the road is the whole table's.
use Rattle.std.proofs.Common.{[], ◌∷◌}
use Rattle.refusal.specs.Table.{check}
use Rattle.refusal.proofs.Results.{err_told, refusal_stands}
use Rattle.road.specs.Judgement.{road_checks, road_refusal}
use Rattle.checks.specs.Checks.{cells_check}
use Rattle.checks.specs.State.{state_shape_refusal}
use Rattle.checks.proofs.states.judged_shape.Goals as goal

pub returns-in_err-road-clause-refusal : goal.returns-in_err-road-clause-refusal
unfolding state_shape_refusal road_refusal
returns-in_err-road-clause-refusal c =
    err_told c.in_err-road.field-0.0 c.from_residual.result c.from_residual.ensures.1
    (refusal_stands c.in_err-road.field-0.0 (road_checks c.args.road) (cells_check c.args.cells ∷ check c.args.bad 8 0 ∷ []) c.in_err-road.ensures.refusal)
