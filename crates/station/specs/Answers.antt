-- What a station reading answers.
use Rattle.refusal.specs.Answer.{Answer}
use Rattle.station.specs.declared.stations.Estimate.{Estimate}

-- the estimate, or the refusal
abbrev pub StationAnswer : Type 0
StationAnswer = Answer Estimate
