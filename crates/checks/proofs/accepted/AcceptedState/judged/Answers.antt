-- `checks::AcceptedState::judged` meets its contract: a refusal of the shape stands, and below it the cells and the pair are judged.
use Rattle.std.proofs.Common.{◌≡◌, sym, ap, [], ◌∷◌, length}
use Rattle.refusal.specs.Outcome.{Outcome}
use Rattle.refusal.specs.Table.{passed, check}
use Rattle.refusal.proofs.Results.{err_told, refusal_stands}
use Rattle.checks.specs.Checks.{pair_checks}
use Rattle.checks.specs.State.{state_shape_checks, state_shape_refusal, state_refusal}
use Rattle.checks.proofs.State.{shape_short, below_shape, state_of}
use Rattle.checks.proofs.accepted.AcceptedState.judged.Goals as goal

pub returns-in_err-road-clause-refusal : goal.returns-in_err-road-clause-refusal
unfolding state_refusal state_shape_refusal
returns-in_err-road-clause-refusal c =
    let a = c.args in
    err_told c.in_err-road.field-0.0 c.from_residual.result c.from_residual.ensures.1
    (refusal_stands c.in_err-road.field-0.0 (state_shape_checks a.road (length a.cells.now) (check a.bad 8 0 ∷ [])) (pair_checks a.road a.cells.now a.up a.down)
    c.in_err-road.ensures.refusal)

-- past the `?` the shape is right, so that the cells are few
pub judged_pair-requires : goal.judged_pair-requires
judged_pair-requires c =
    shape_short c.args.road (length c.args.cells.now) c.args.bad (sym (ap (λ (o : Outcome). o.number) c.in_ok-road.ensures.refusal))

pub returns-in_err-judged_pair-clause-refusal : goal.returns-in_err-judged_pair-clause-refusal
returns-in_err-judged_pair-clause-refusal c =
    let a = c.args in
    err_told c.in_err-judged_pair.field-0.0 c.from_residual-in_err-judged_pair.result c.from_residual-in_err-judged_pair.ensures.1
    (below_shape a.road a.cells.now a.up a.down a.bad c.in_ok-road.ensures.refusal (rw (sym c.in_ok-road.ensures.road) c.in_err-judged_pair.ensures))

pub returns-clause-refusal : goal.returns-clause-refusal
returns-clause-refusal c =
    let a = c.args in
    below_shape a.road a.cells.now a.up a.down a.bad c.in_ok-road.ensures.refusal (rw (sym c.in_ok-road.ensures.road) c.in_ok-judged_pair.ensures)

pub invariant_of-result : goal.invariant_of-result
invariant_of-result c =
    let a = c.args in
    let none : passed ≡ state_refusal a.road a.cells.now a.up a.down a.bad = below_shape a.road a.cells.now a.up a.down a.bad c.in_ok-road.ensures.refusal (rw (sym c.in_ok-road.ensures.road) c.in_ok-judged_pair.ensures) in
    rw c.in_ok-road.ensures.road record {
      checked = state_of a.road a.cells.now a.up a.down a.bad (sym (ap (λ (o : Outcome). o.number) none));
    }
