-- `forecast::AcceptedInput::forecast_aside` meets its contract: the run is made in the working list, and the output is written once 19 is decided.
use Rattle.std.proofs.Common.{length}
use Rattle.forecast.proofs.Checked.{with_output}
use Rattle.forecast.proofs.Answers.{total_refused, forecast_done, within_jam}
use Rattle.forecast.proofs.Calling.{in_range}
use Rattle.forecast.proofs.accepted.AcceptedInput.forecast_aside.Goals as goal

pub returns-in_default : goal.returns-in_default
returns-in_default c =
    let i = c.args.self in
    total_refused i.road.road i.caps.now i.cells.now i.upstream.now i.downstream.now i.horizon c.args.out.now c.args.totals
    (with_output i.road.road i.caps.now i.cells.now i.upstream.now i.downstream.now i.horizon (length i.cells.now) i.checked (length c.args.out.now) c.requires)
    c.run_in-own.ensures c.in_default.ensures

pub copy-requires-clause-below : goal.copy-requires-clause-below
copy-requires-clause-below c =
    let i = c.args.self in
    in_range c.run_in-own.new.list i.road.accepted
    (within_jam i.road.road i.caps.now i.cells.now i.upstream.now i.downstream.now i.horizon i.cells.now i.checked c.run_in-own.new.list c.run_in-own.result c.run_in-own.ensures)

-- past 19 both sums fit
pub returns : goal.returns
returns c =
    let i = c.args.self in
    rw (c.copy.ensures, c.in-Some.ensures.1) (forecast_done i.road.road i.caps.now i.cells.now i.upstream.now i.downstream.now i.horizon c.args.out.now c.args.totals
    (with_output i.road.road i.caps.now i.cells.now i.upstream.now i.downstream.now i.horizon (length i.cells.now) i.checked (length c.args.out.now) c.requires)
    c.run_in-own.ensures c.in-Some.ensures.0)
