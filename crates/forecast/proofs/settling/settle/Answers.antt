-- `forecast::settle` meets its contract: refused, nothing is written; otherwise the copy is settled.
use Rattle.std.proofs.Common.{◌∙◌, length}
use Rattle.forecast.proofs.Checked.{settle_passed}
use Rattle.forecast.proofs.Answers.{settle_err, settle_done}
use Rattle.forecast.proofs.Calling.{in_range, settle_asks, settle_gives}
use Rattle.forecast.proofs.settling.settle.Goals as goal

pub returns-in_err-road : goal.returns-in_err-road
returns-in_err-road c =
    let a = c.args in
    settle_err a.road a.caps.now a.cells.now a.up a.down a.horizon a.out.now c.in_err-road.field-0.0 c.from_residual.result c.from_residual.ensures.1
    c.in_err-road.ensures.refusal

pub copy-requires-clause-below : goal.copy-requires-clause-below
copy-requires-clause-below c =
    let ok = settle_passed _ _ _ _ _ _ _ c.in_ok-road.ensures.refusal in
    in_range c.args.cells.now ok.accepted ok.cells_below

pub copy-requires-clause-long : goal.copy-requires-clause-long
copy-requires-clause-long c = (settle_passed _ _ _ _ _ _ _ c.in_ok-road.ensures.refusal).output_long

pub settle-requires : goal.settle-requires
settle-requires c =
    settle_asks c.args.road c.of.result (c.of.ensures ∙ c.in_ok-road.ensures.road) c.args.caps.now c.args.cells.now c.copy.new.out c.copy.ensures
    c.args.up c.args.down c.args.horizon (length c.args.out.now) (settle_passed _ _ _ _ _ _ _ c.in_ok-road.ensures.refusal)

pub returns : goal.returns
returns c =
    settle_done c.args.road c.args.caps.now c.args.cells.now c.args.up c.args.down c.args.horizon c.args.out.now c.in_ok-road.ensures.refusal c.settle.new.cells c.settle.result
    (settle_gives c.args.road c.of.result (c.of.ensures ∙ c.in_ok-road.ensures.road) c.args.caps.now c.args.cells.now c.copy.new.out c.copy.ensures
    c.args.up c.args.down c.args.horizon c.settle.ensures)
