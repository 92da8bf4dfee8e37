-- The loop of `scheme::run` keeps `RunUnderway`.
use Rattle.std.proofs.Common.{length}
use Rattle.scheme.specs.Rounded.{moved}
use Rattle.scheme.proofs.Underway.{RunUnderway}
use Rattle.scheme.proofs.many_steps.run.Given as goal

abbrev pub invariant-loop-up : goal.invariant-loop-up
invariant-loop-up l =
    RunUnderway l.pace.road.road.jam (λ s. moved l.pace.road.road l.caps) l.upstream l.downstream l.fn.cells l.cells l.totals.entered l.totals.left (length l.yielded)
