-- `scheme::settle` meets its contract: the loop keeps `StillnessSought`.
use Rattle.std.proofs.Common.{◌∙◌, sym, arith}
use Rattle.scheme.specs.Rounded.{moved, round_step}
use Rattle.scheme.specs.Settling.{still}
use Rattle.scheme.proofs.Shape.{stepped_length}
use Rattle.scheme.proofs.Range.{steps_below}
use Rattle.scheme.proofs.Laws.{lawful}
use Rattle.scheme.proofs.Settlement.{begins, turns, settled, unsettled}
use Rattle.scheme.proofs.settling.settle.Goals as goal

pub loop-steps-init : goal.loop-steps-init
loop-steps-init c =
    begins (round_step c.args.pace.road.road c.args.caps.now c.args.up c.args.down) (still c.args.pace.road.road c.args.caps.now c.args.up c.args.down)
    c.args.horizon c.args.cells.now c.requires.below

pub returns-then-is_still : goal.returns-then-is_still
returns-then-is_still c =
    settled c.args.pace.road.road c.args.caps.now c.args.up c.args.down c.loop-steps.invariant c.loop-steps-test.true
    (sym c.is_still.ensures ∙ c.if-is_still.true)

pub loop-steps-preserved : goal.loop-steps-preserved
loop-steps-preserved c =
    turns c.loop-steps.invariant c.step.new.cells
    c.loop-steps-test.true (sym c.is_still.ensures ∙ c.if-is_still.false) c.step.ensures.stepped.cells
    (stepped_length 1 (moved c.args.pace.road.road c.args.caps.now) c.args.up c.args.down c.loop-steps.cells)
    (steps_below (lawful c.args.pace c.args.caps.now) c.args.up c.args.down c.loop-steps.cells c.loop-steps.invariant.below)

pub returns : goal.returns
returns c =
    unsettled c.args.pace.road.road c.args.caps.now c.args.up c.args.down c.loop-steps.invariant (omega arith)
