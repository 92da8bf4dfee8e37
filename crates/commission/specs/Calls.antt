-- Every public call there is, of Rattle and of C, by its contract alone: what it did with any input. What it made of an accepted one stands in its own file.
-- The public calls are those of `forecast`, `modes`, `rows`, `candidate`, `counting`, `station` and `nearest` that say no "Internal", and the C form of each. The five
-- ceilings and the version for C take no input and hand back a constant; they have nothing to judge.
use Rattle.commission.specs.ForecastCall.{CalledForecast}
use Rattle.commission.specs.SettleCall.{CalledSettle}
use Rattle.commission.specs.ReadCall.{CalledRead}
use Rattle.commission.specs.FitCall.{CalledFit}
use Rattle.commission.specs.PredictCall.{CalledPredict}
use Rattle.commission.specs.CandidateCall.{CalledCandidate}
use Rattle.commission.specs.CountCall.{CalledCount}
use Rattle.commission.specs.StationCall.{CalledStation}
use Rattle.commission.specs.NearestCall.{CalledNearest}
use Rattle.commission.specs.Outcome.{Outcome}

pub data Called : Outcome → Type 1 where
  forecast : {o : Outcome} → CalledForecast o → Called o
  settle : {o : Outcome} → CalledSettle o → Called o
  read : {o : Outcome} → CalledRead o → Called o
  fit : {o : Outcome} → CalledFit o → Called o
  predict : {o : Outcome} → CalledPredict o → Called o
  candidate : {o : Outcome} → CalledCandidate o → Called o
  count : {o : Outcome} → CalledCount o → Called o
  station : {o : Outcome} → CalledStation o → Called o
  nearest : {o : Outcome} → CalledNearest o → Called o
