-- The loop of `scheme::step` keeps `StepUnderway`.
use Rattle.scheme.specs.Rounded.{moved}
use Rattle.scheme.proofs.InPlace.{StepUnderway}
use Rattle.scheme.proofs.one_step.step.Given as goal

abbrev pub invariant-loop-i : goal.invariant-loop-i
invariant-loop-i l = StepUnderway l.pace.road.road.jam (moved l.pace.road.road l.caps) l.up l.down l.fn.cells l.first l.cells l.i l.inflow
