-- `scheme::step` meets its contract: the loop keeps `StepUnderway`, and its end is the whole step.
use Rattle.std.proofs.Common.{arith}
use Rattle.scheme.proofs.Laws.{lawful}
use Rattle.scheme.proofs.InPlace.{begins, turns, ends, holds}
use Rattle.scheme.proofs.ByFaces.{step_faces}
use Rattle.scheme.proofs.one_step.step.Goals as goal

-- the loop's turn and the end stand first: a wrong step fails there
pub loop-i-preserved : goal.loop-i-preserved
loop-i-preserved c =
    turns (lawful c.args.pace c.args.caps.now) c.loop-i.invariant (let n = c.loop-i.invariant.long in omega arith) c.flow-out.ensures

pub returns : goal.returns
returns c =
    let stepped = ends (lawful c.args.pace c.args.caps.now) c.loop-i.invariant c.loop-i-test.false (omega arith) c.flow-last.ensures in
    record { stepped = stepped; stepped_by_faces = step_faces c.args.pace.road.road c.args.caps.now c.args.pace.road.accepted stepped }

pub loop-i-init : goal.loop-i-init
loop-i-init c =
    begins (lawful c.args.pace c.args.caps.now) c.args.up c.args.down c.args.cells.now c.requires.some c.requires.below c.flow-first.ensures

pub overflow_sub-cells : goal.overflow_sub-cells
overflow_sub-cells c = omega (arith, holds (lawful c.args.pace c.args.caps.now) c.flow-out.ensures)

pub overflow_sub-cells-2 : goal.overflow_sub-cells-2
overflow_sub-cells-2 c = omega (arith, holds (lawful c.args.pace c.args.caps.now) c.flow-last.ensures)
