-- The loop of `modes::write_letters` keeps `Lettering`.
use Rattle.modes.proofs.LetterLoop.{Lettering}
use Rattle.modes.proofs.writing.write_letters.Given as goal

abbrev pub invariant-loop-face : goal.invariant-loop-face
invariant-loop-face l = Lettering l.state.road.road l.state.up l.state.down l.state.cells.now l.letters l.face
