-- `modes::queued` meets its contract: at the end all are counted.
use Rattle.std.proofs.Common.{ℕ, arith, length-take, length-drop}
use Rattle.modes.proofs.Counted.{cells_counted}
use Rattle.modes.proofs.tallying.queued.Goals as goal

pub returns : goal.returns
returns c = cells_counted _ c.args.state.cells.now c.loop-cell.invariant (omega (arith, length-take {A = ℕ}, length-drop {A = ℕ}))
