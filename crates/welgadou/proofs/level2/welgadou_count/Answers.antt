-- `welgadou_count` meets its contract: the answer below, case by case.
use Rattle.std.proofs.Common.{ap}
use Rattle.refusal.specs.Answer.{answer_of}
use Rattle.welgadou.proofs.ModeAnswers.{count_done, count_refused}
use Rattle.welgadou.proofs.level2.welgadou_count.Goals as goal

pub returns-in-Ok : goal.returns-in-Ok
returns-in-Ok c = count_done c.count.ensures (ap answer_of c.in-Ok.is)

pub returns-in-Err : goal.returns-in-Err
returns-in-Err c = rw (c.refused.ensures.number, c.refused.ensures.placed) (count_refused c.count.ensures (ap answer_of c.in-Err.is))
