-- `cli_scenario::wrong_value` meets its contract: the first wrong word, or none.
use Rattle.std.proofs.Common.{sym}
use Rattle.std.proofs.lemmas.Result.{err_from_is_err_and}
use Rattle.cli_scenario.specs.Judging.{wrong_value}
use Rattle.cli_scenario.proofs.judging.wrong_value.Goals as goal

pub loop-word-preserved : goal.loop-word-preserved
unfolding wrong_value
loop-word-preserved c = rw (c.in-Some.ensures.steps, sym c.in_ok-item_of.ensures) at c.loop-word.invariant

pub returns-in_err-item_of : goal.returns-in_err-item_of
unfolding wrong_value
returns-in_err-item_of c =
    let left = err_from_is_err_and c.from_residual.result c.from_residual.ensures.1 in
    rw (left.1, left.2) (rw (c.in-Some.ensures.steps, sym c.in_err-item_of.ensures) at c.loop-word.invariant)

pub returns : goal.returns
unfolding wrong_value
returns c = rw c.in-None.ensures.steps.0 at c.loop-word.invariant
