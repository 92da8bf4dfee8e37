-- `cli_scenario::judge` meets its contract: the first line that is wrong, or what all lines come to.
use Rattle.std.proofs.Common.{◌∙◌, sym, refl, arith, ap, length}
use Rattle.std.proofs.lemmas.Result.{err_from_is_err_and}
use Rattle.cli_scenario.specs.Judging.{judged_lines, verdict}
use Rattle.cli_scenario.proofs.Counting.{lines_few}
use Rattle.cli_scenario.proofs.Judged.{verdict_is, next_line}
use Rattle.cli_scenario.proofs.judging.judge.Goals as goal

pub returns-then-is_empty : goal.returns-then-is_empty
unfolding verdict
returns-then-is_empty c = rw (sym c.is_empty.ensures ∙ c.if-is_empty.true) refl

pub loop-line-init : goal.loop-line-init
loop-line-init c =
    rw (c.into_iter-line-iterator.ensures.into_iter_gives, c.of-line-items.ensures) (omega (arith, lines_few c.args.text.now), refl)

pub returns-in_err-p : goal.returns-in_err-p
unfolding judged_lines
returns-in_err-p c =
    let left = err_from_is_err_and c.from_residual.result c.from_residual.ensures.1 in
    let wrong = rw (c.in-Some.ensures.steps, sym c.in_err-p.ensures) at c.loop-line.invariant.1 in
    rw (left.1, left.2) (verdict_is c.args.text.now _ (sym c.is_empty.ensures ∙ c.if-is_empty.false) wrong)

pub loop-line-preserved : goal.loop-line-preserved
unfolding judged_lines
loop-line-preserved c =
    let on = next_line c.loop-line.p c.in_ok-p.p c.in-Some.line.now c.in_ok-p.ensures in (
      omega (arith, on, ap length c.in-Some.ensures.steps),
      rw (c.in-Some.ensures.steps, sym c.in_ok-p.ensures) at c.loop-line.invariant.1,
    )

pub returns : goal.returns
unfolding judged_lines
returns c =
    let all = rw c.in-None.ensures.steps.0 at c.loop-line.invariant.1 in
    c.outcome.ensures ∙ verdict_is c.args.text.now _ (sym c.is_empty.ensures ∙ c.if-is_empty.false) all
