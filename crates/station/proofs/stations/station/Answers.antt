-- `station::station` meets its contract: what the reading's judgement told.
use Rattle.station.proofs.StationAnswers.{station_answers}
use Rattle.station.proofs.stations.station.Goals as goal

pub returns : goal.returns
returns c = station_answers c.args.road c.args.reading c.judged.result c.judged.ensures.refusal c.judged.ensures.estimate
