-- The loop of `scheme::settle` keeps `StillnessSought`.
use Rattle.scheme.specs.Rounded.{round_step}
use Rattle.scheme.specs.Settling.{still}
use Rattle.scheme.proofs.Settlement.{StillnessSought}
use Rattle.scheme.proofs.settling.settle.Given as goal

abbrev pub invariant-loop-steps : goal.invariant-loop-steps
invariant-loop-steps l =
    let r = l.pace.road.road in
    StillnessSought (round_step r l.caps l.up l.down) (still r l.caps l.up l.down) r.jam l.horizon l.fn.cells l.cells l.steps
