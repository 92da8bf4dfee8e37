-- `welgadou_nearest` meets its contract: the answer below, case by case.
use Rattle.std.proofs.Common.{ap}
use Rattle.refusal.specs.Answer.{answer_of}
use Rattle.welgadou.proofs.RankingAnswers.{nearest_answered}
use Rattle.welgadou.proofs.rankings.welgadou_nearest.Goals as goal

pub returns-in-Ok : goal.returns-in-Ok
returns-in-Ok c = nearest_answered c.nearest.ensures _ (ap answer_of c.in-Ok.is)

pub returns-in-Err : goal.returns-in-Err
returns-in-Err c = rw (c.refused.ensures.number, c.refused.ensures.placed) (nearest_answered c.nearest.ensures _ (ap answer_of c.in-Err.is))
