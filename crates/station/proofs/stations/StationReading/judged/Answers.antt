-- `station::StationReading::judged` meets its contract: a refusal of the road is the whole table's.
use Rattle.refusal.proofs.Results.{err_told, refusal_stands}
use Rattle.road.specs.Judgement.{road_checks, road_refusal}
use Rattle.station.specs.Station.{given_checks, station_refusal}
use Rattle.station.proofs.stations.StationReading.judged.Goals as goal

pub returns-in_err-judged-clause-refusal : goal.returns-in_err-judged-clause-refusal
unfolding station_refusal road_refusal
returns-in_err-judged-clause-refusal c =
    err_told c.in_err-judged.field-0.0 c.from_residual.result c.from_residual.ensures.1
    (refusal_stands c.in_err-judged.field-0.0 (road_checks c.args.road) (given_checks c.args.road c.args.self) c.in_err-judged.ensures.refusal)
