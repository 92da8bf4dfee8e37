-- The loop of `modes::first_misfit` keeps `WordCompared`.
use Rattle.modes.proofs.Misfits.{WordCompared}
use Rattle.modes.proofs.fitting.first_misfit.Given as goal

abbrev pub invariant-loop-face : goal.invariant-loop-face
invariant-loop-face l = WordCompared l.state.road.road l.state.up l.state.down l.state.cells.now l.word l.left l.face
