-- `welgadou_forecast_3` meets its contract: the answer below, case by case.
use Rattle.std.proofs.Common.{ap}
use Rattle.refusal.specs.Answer.{answer_of}
use Rattle.welgadou.proofs.ForecastAnswers.{forecast_done, forecast_refused}
use Rattle.welgadou.proofs.level1.welgadou_forecast_3.Goals as goal

pub returns-in-Ok : goal.returns-in-Ok
returns-in-Ok c = forecast_done c.forecast.ensures (ap answer_of c.in-Ok.is)

pub returns-in-Err : goal.returns-in-Err
returns-in-Err c = rw (c.refused.ensures.number, c.refused.ensures.placed) (forecast_refused c.forecast.ensures (ap answer_of c.in-Err.is))
