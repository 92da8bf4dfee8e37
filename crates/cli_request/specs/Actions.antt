-- The actions of a scenario, and the key that asks for each.
use Rattle.cli_request.specs.declared.action.Action.{Action}
use Rattle.cli_request.specs.declared.action.Action.TheVariants.{Forecast, Settle, Read, Readlast, Fit, Rows, Candidate, Count, Station, Nearest}
use Rattle.cli_vocabulary.specs.declared.keys.Key.{Key}
use Rattle.cli_vocabulary.specs.declared.keys.Key.TheVariants as keys

-- the key of an action
abbrev pub key_of : Action → Key
key_of Forecast = keys.Forecast
key_of Settle = keys.Settle
key_of Read = keys.Read
key_of Readlast = keys.Readlast
key_of Fit = keys.Fit
key_of Rows = keys.Rows
key_of Candidate = keys.Candidate
key_of Count = keys.Count
key_of Station = keys.Station
key_of Nearest = keys.Nearest
