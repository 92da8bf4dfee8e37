-- `cli_vocabulary::decimal` meets its contract: the loop keeps `Writing`.
use Rattle.std.proofs.lemmas.Result.{err_from_is_err_and}
use Rattle.cli_vocabulary.proofs.Decimal.{past, turns, ends}
use Rattle.cli_vocabulary.proofs.numbers.decimal.Goals as goal

pub returns-in_err-value : goal.returns-in_err-value
returns-in_err-value c =
    let left = err_from_is_err_and c.from_residual.result c.from_residual.ensures.1 in
    rw (left.1, left.2) (past c.args.word.now c.args.most c.loop-b.value c.loop-b.b-index c.loop-b.invariant c.loop-b-test.true _ (rw c.from.ensures at c.in_err-value.ensures))

pub loop-b-preserved : goal.loop-b-preserved
loop-b-preserved c =
    turns c.args.word.now c.args.most c.loop-b.value c.loop-b.b-index c.loop-b.invariant c.loop-b-test.true c.in_ok-value.value
    (rw c.from.ensures at c.in_ok-value.ensures)

pub returns : goal.returns
returns c = ends c.args.word.now c.args.most c.loop-b.value c.loop-b.b-index c.loop-b.invariant c.loop-b-test.false
