-- `scheme::run` meets its contract: the loop keeps `RunUnderway`.
use Rattle.std.proofs.Common.{[], ◌∷◌, length, length-append, rules}
use Rattle.std.proofs.lemmas.List.{take_all}
use Rattle.std.proofs.lemmas.Slice.Zip.{zip_turn, zip_end}
use Rattle.scheme.specs.Rounded.{moved}
use Rattle.scheme.proofs.Laws.{lawful, ready_again}
use Rattle.scheme.proofs.Underway.{begins, turns, ends}
use Rattle.scheme.proofs.many_steps.run.Goals as goal

pub loop-up-init : goal.loop-up-init
loop-up-init c =
    begins (λ t. moved c.args.pace.road.road c.args.caps.now) c.args.upstream.now c.args.downstream.now c.args.cells.now (c.requires.each 0).below

-- the ends of this turn are those of its step
pub step-moved-requires : goal.step-moved-requires
step-moved-requires c =
    let at = zip_turn c.args.upstream.now c.args.downstream.now c.loop-up.yielded c.into_iter-up-iterator.result c.loop-up.up-iterator c.next.new.self c.next.result
    (search (rules, take_all)) (search rules) c.loop-up.yielded_by (c.in-Some.up, c.in-Some.down) c.in-Some.is c.next.ensures.steps in
    rw (at.2 0, at.3 0) (ready_again (c.requires.each (length c.loop-up.yielded)) c.loop-up.invariant.long c.loop-up.invariant.below)

-- a step made: the next turn of the loop, whose sums are small
pub loop-up-preserved : goal.loop-up-preserved
loop-up-preserved c =
    let at = zip_turn c.args.upstream.now c.args.downstream.now c.loop-up.yielded c.into_iter-up-iterator.result c.loop-up.up-iterator c.next.new.self c.next.result
    (search (rules, take_all)) (search rules) c.loop-up.yielded_by (c.in-Some.up, c.in-Some.down) c.in-Some.is c.next.ensures.steps in
    turns (λ t. lawful c.args.pace c.args.caps.now) c.args.pace.road.accepted.jam_high c.loop-up.invariant c.step-moved.new.cells c.step-moved.result
    at.0 at.1 (at.2 0) (at.3 0) (rw (at.2 0) (c.requires.each (length c.loop-up.yielded)).up_high) c.step-moved.ensures.stepped c.from.ensures c.from-in-loop-up.ensures
    (length-append c.loop-up.yielded ((c.in-Some.up, c.in-Some.down) ∷ []))

pub returns : goal.returns
returns c =
    ends c.loop-up.invariant
    (zip_end c.args.upstream.now c.args.downstream.now c.loop-up.yielded c.into_iter-up-iterator.result c.loop-up.up-iterator c.next.new.self c.next.result
    (search (rules, take_all)) (search rules) c.loop-up.yielded_by c.in-None.is c.next.ensures.steps)
    c.requires.same
