-- The loop of `modes::write_modes` keeps `Moding`.
use Rattle.modes.proofs.ModeLoop.{Moding}
use Rattle.modes.proofs.writing.write_modes.Given as goal

abbrev pub invariant-loop-cell : goal.invariant-loop-cell
invariant-loop-cell l = Moding l.word l.modes l.cell
