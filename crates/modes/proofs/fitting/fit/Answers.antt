-- `modes::fit` meets its contract: refused by the judgement, otherwise compared.
use Rattle.modes.proofs.FitAnswers.{refused_by, done_by}
use Rattle.modes.proofs.fitting.fit.Goals as goal

pub returns-in_err-accepted : goal.returns-in_err-accepted
returns-in_err-accepted c =
    let a = c.args in
    refused_by a.road a.cells.now a.up a.down a.word.now
    c.in_err-accepted.field-0.0 c.from_residual.result c.from_residual.ensures.1 c.in_err-accepted.ensures.refusal

pub returns : goal.returns
returns c =
    let a = c.args in
    done_by a.road a.cells.now a.up a.down a.word.now
    c.in_ok-accepted.accepted c.in_ok-accepted.ensures.word c.in_ok-accepted.ensures.refusal _ c.first_misfit.ensures
