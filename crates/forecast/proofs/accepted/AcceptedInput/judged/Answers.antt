-- `forecast::AcceptedInput::judged` meets its contract: a refusal of the road is the whole table's, and what no check refuses is checked.
use Rattle.std.proofs.Common.{◌≡◌, refl, ◌++◌, length, rules}
use Rattle.refusal.specs.Table.{passed, or_if}
use Rattle.refusal.proofs.Results.{err_told, refusal_stands}
use Rattle.road.specs.Judgement.{road_checks, road_refusal}
use Rattle.checks.specs.Checks.{value_checks}
use Rattle.forecast.specs.Forecast.{list_checks, input_refusal}
use Rattle.forecast.proofs.Checked.{input_passed, with_output}
use Rattle.forecast.proofs.accepted.AcceptedInput.judged.Goals as goal

pub returns-in_err-road-clause-refusal : goal.returns-in_err-road-clause-refusal
unfolding input_refusal road_refusal
returns-in_err-road-clause-refusal c =
    let a = c.args in
    err_told c.in_err-road.field-0.0 c.from_residual.result c.from_residual.ensures.1
    (refusal_stands c.in_err-road.field-0.0 (road_checks a.road)
    (list_checks (length a.caps.now) (length a.cells.now) (length a.upstream.now) (length a.downstream.now) a.horizon a.out ++ value_checks a.road a.cells.now a.upstream.now a.downstream.now)
    c.in_err-road.ensures.refusal)

pub invariant_of-result : goal.invariant_of-result
unfolding input_refusal or_if
invariant_of-result c =
    let a = c.args in
    let none : passed ≡ input_refusal a.road a.caps.now a.cells.now a.upstream.now a.downstream.now a.horizon a.out = search rules in
    let ok = input_passed a.road a.caps.now a.cells.now a.upstream.now a.downstream.now a.horizon a.out none in
    rw c.in_ok-road.ensures.road record {
      checked = with_output a.road a.caps.now a.cells.now a.upstream.now a.downstream.now a.horizon a.out ok (length a.cells.now) refl;
    }
