-- `forecast::judged` of the settling run meets its contract: a refusal of the road is the whole table's.
use Rattle.std.proofs.Common.{◌++◌, length}
use Rattle.refusal.proofs.Results.{err_told, refusal_stands}
use Rattle.road.specs.Judgement.{road_checks, road_refusal}
use Rattle.checks.specs.Checks.{pair_checks}
use Rattle.forecast.specs.Settle.{settle_list_checks, settle_refusal}
use Rattle.forecast.proofs.settling.judged.Goals as goal

pub returns-in_err-road-clause-refusal : goal.returns-in_err-road-clause-refusal
unfolding settle_refusal road_refusal
returns-in_err-road-clause-refusal c =
    let a = c.args in
    err_told c.in_err-road.field-0.0 c.from_residual.result c.from_residual.ensures.1
    (refusal_stands c.in_err-road.field-0.0 (road_checks a.road)
    (settle_list_checks (length a.caps.now) (length a.cells.now) a.horizon a.out ++ pair_checks a.road a.cells.now a.up a.down)
    c.in_err-road.ensures.refusal)
