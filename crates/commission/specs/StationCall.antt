-- The station reading among the public calls: the numbers of its checks, what it did with any input, what it returned, and what it made of an accepted one.
use Rattle.std.specs.Prelude.{◌≡◌, List, [], ◌∷◌, ℕ, Float}
use Rattle.refusal.specs.Table.{refused}
use Rattle.refusal.specs.Outcome.{Outcome as Refusal}
use Rattle.road.specs.declared.Road.{Road}
use Rattle.station.specs.declared.stations.StationReading.{StationReading}
use Rattle.station.specs.declared.stations.Estimate.{Estimate}
use Rattle.station.specs.Answers.{StationAnswer}
use Rattle.refusal.specs.Answer.{Done}
use Rattle.station.specs.Station.{station_checks, meaning, StationChecked, Stations}
use Rattle.welgadou.specs.Stations.{StationEstimated}
use Rattle.commission.specs.Outcome.{Outcome}
use Rattle.commission.specs.Places.{NoPlace}

-- "After the road checks" 16, 17 and 18 (document 02, E1)
abbrev pub station_numbers : List ℕ
station_numbers = 1 ∷ 2 ∷ 3 ∷ 4 ∷ 16 ∷ 17 ∷ 18 ∷ []

-- what came of it: f the refusal that came back
abbrev pub station_outcome : Road → StationReading → Refusal → Type 0 → Type 0 → Outcome
station_outcome r x f Kept Made = record {
  checks = station_checks r x;
  numbers = station_numbers;
  Checked = StationChecked r x;
  Placed = NoPlace;
  refusal = f;
  Kept = Kept;
  Made = Made;
}

-- the three kinds of station share one contract for C
pub data CalledStation : Outcome → Type 1 where
  station : {r : Road} {x : StationReading} {a : StationAnswer}
      → Stations r x a → CalledStation (station_outcome r x (refused (meaning a).number (meaning a).place) (Unit {0}) ((e : Estimate) × (a ≡ Done e)))
  welgadou_station : {r : Road} {x : StationReading} {estimate estimate-next : Float} {place number : ℕ}
      → StationEstimated r x estimate estimate-next place number → CalledStation (station_outcome r x (refused number place) (estimate-next ≡ estimate) (Unit {0}))

-- what an accepted call was given and what it made
pub record AcceptedStation : Type 0 where
  pub road : Road
  pub reading : StationReading
  pub estimate : Float

pub data StationMade : AcceptedStation → Type 0 where
  station : {r : Road} {x : StationReading} {a : StationAnswer} {e : Estimate}
      → Stations r x a → a ≡ Done e → StationMade (record { road = r; reading = x; estimate = e.density })
  welgadou_station : {r : Road} {x : StationReading} {estimate estimate-next : Float} {place number : ℕ}
      → StationEstimated r x estimate estimate-next place number → number ≡ 0
      → StationMade (record { road = r; reading = x; estimate = estimate-next })

-- what any call was given, and the number that it returned: 0 where it was accepted
pub record AskedStation : Type 0 where
  pub road : Road
  pub reading : StationReading
  pub number : ℕ

pub data StationAsked : AskedStation → Type 0 where
  station : {r : Road} {x : StationReading} {a : StationAnswer}
      → Stations r x a → StationAsked (record { road = r; reading = x; number = (meaning a).number })
  welgadou_station : {r : Road} {x : StationReading} {estimate estimate-next : Float} {place number : ℕ}
      → StationEstimated r x estimate estimate-next place number → StationAsked (record { road = r; reading = x; number = number })
