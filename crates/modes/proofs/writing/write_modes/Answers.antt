-- `modes::write_modes` meets its contract: the loop keeps `Moding`.
use Rattle.std.proofs.Common.{◌∙◌, arith}
use Rattle.modes.proofs.ModeLoop.{turns, ends}
use Rattle.modes.proofs.writing.write_modes.Goals as goal

pub loop-cell-preserved : goal.loop-cell-preserved
loop-cell-preserved c =
    turns c.args.word.now c.loop-cell.modes c.loop-cell.cell c.loop-cell.invariant c.code.result (omega arith) (c.code.ensures ∙ c.between.ensures)

pub returns : goal.returns
returns c = ends c.args.word.now c.loop-cell.modes c.loop-cell.cell c.loop-cell.invariant (omega arith)
