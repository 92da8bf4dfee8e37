-- `welgadou_fit` meets its contract: the answer below, case by case.
use Rattle.std.proofs.Common.{◌∙◌, ap, refl, Ok}
use Rattle.modes.specs.Answers.{fit_of}
use Rattle.welgadou.proofs.ModeAnswers.{fit_done, fit_refused}
use Rattle.welgadou.proofs.level2.welgadou_fit.Goals as goal

pub returns-in-Ok-None : goal.returns-in-Ok-None
returns-in-Ok-None c = fit_done c.fit.ensures (ap fit_of (c.in-Ok-None.is ∙ ap Ok c.in-Ok-None.field-0-is)) refl

pub returns-in-Ok-Some : goal.returns-in-Ok-Some
returns-in-Ok-Some c = fit_done c.fit.ensures (ap fit_of (c.in-Ok-Some.is ∙ ap Ok c.in-Ok-Some.field-0-is)) refl

pub returns-in-Err : goal.returns-in-Err
returns-in-Err c = rw (c.refused.ensures.number, c.refused.ensures.placed) (fit_refused c.fit.ensures (ap fit_of c.in-Err.is))
