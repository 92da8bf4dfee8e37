-- `welgadou::estimated` meets its contract: the answer below, case by case.
use Rattle.std.proofs.Common.{ap}
use Rattle.refusal.specs.Answer.{answer_of}
use Rattle.welgadou.proofs.StationAnswers.{station_done, station_refused}
use Rattle.welgadou.proofs.stations.estimated.Goals as goal

pub returns-in-Ok : goal.returns-in-Ok
returns-in-Ok c = station_done c.station.ensures (ap answer_of c.in-Ok.is)

pub returns-in-Err : goal.returns-in-Err
returns-in-Err c = rw (c.refused.ensures.number, c.refused.ensures.placed) (station_refused c.station.ensures (ap answer_of c.in-Err.is))
