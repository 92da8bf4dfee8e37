-- `welgadou_read` meets its contract: the answer below, case by case.
use Rattle.std.proofs.Common.{refl}
use Rattle.welgadou.proofs.ModeAnswers.{read_done, read_refused}
use Rattle.welgadou.proofs.level2.welgadou_read.Goals as goal

pub returns-in-Ok : goal.returns-in-Ok
returns-in-Ok c = read_done c.in-Ok.ensures refl

pub returns-in-Err : goal.returns-in-Err
returns-in-Err c = rw (c.refused.ensures.number, c.refused.ensures.placed) (read_refused c.in-Err.ensures refl)
