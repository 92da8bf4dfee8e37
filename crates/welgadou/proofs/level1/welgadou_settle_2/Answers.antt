-- `welgadou_settle_2` meets its contract: the answer below, case by case.
use Rattle.std.proofs.Common.{◌∙◌, ap}
use Rattle.refusal.specs.Answer.{answer_of}
use Rattle.welgadou.proofs.Answers.{flag_is}
use Rattle.welgadou.proofs.ForecastAnswers.{settle_done, settle_refused}
use Rattle.welgadou.proofs.level1.welgadou_settle_2.Goals as goal

pub returns-in-Ok : goal.returns-in-Ok
returns-in-Ok c = settle_done c.settle.ensures (ap answer_of c.in-Ok.is) (c.from.ensures ∙ flag_is c.in-Ok.run'.settled)

pub returns-in-Err : goal.returns-in-Err
returns-in-Err c = rw (c.refused.ensures.number, c.refused.ensures.placed) (settle_refused c.settle.ensures (ap answer_of c.in-Err.is))
