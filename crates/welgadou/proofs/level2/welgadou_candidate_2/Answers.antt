-- `welgadou_candidate_2` meets its contract: the answer below, case by case.
use Rattle.std.proofs.Common.{ap}
use Rattle.refusal.specs.Answer.{answer_of}
use Rattle.welgadou.proofs.ModeAnswers.{candidate_done, candidate_refused}
use Rattle.welgadou.proofs.level2.welgadou_candidate_2.Goals as goal

pub returns-in-Ok : goal.returns-in-Ok
returns-in-Ok c = candidate_done c.mode_byte.ensures c.candidate.ensures (ap answer_of c.in-Ok.is)

pub returns-in-Err : goal.returns-in-Err
returns-in-Err c = rw (c.refused.ensures.number, c.refused.ensures.placed) (candidate_refused c.mode_byte.ensures c.candidate.ensures (ap answer_of c.in-Err.is))
