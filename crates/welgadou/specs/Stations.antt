-- What the C calls of a station promise: the number returned, and every pointer's contents, from the definitions of the call below, demand 1 of the number
-- and place (`judged`), and what is promised of an estimate that is written (`feeds`, `lone_speed`).
use Rattle.std.specs.Prelude.{◌≡◌, ℕ, Float}
use Rattle.refusal.specs.Table.{refused}
use Rattle.road.specs.declared.Road.{Road}
use Rattle.floats.specs.Worth.{FiniteUpTo, FiniteFrom}
use Rattle.station.specs.declared.stations.StationReading.{StationReading}
use Rattle.station.specs.declared.stations.StationReading.TheVariants.{Speed}
use Rattle.station.specs.Station.{station_meaning, StationJudged}
use Rattle.welgadou.specs.Parts.{written}

-- welgadou_station_density, welgadou_station_flow, welgadou_station_speed: the estimate of a reading of that kind
pub record StationEstimated (r : Road) (x : StationReading) (estimate estimate-next : Float) (place number : ℕ) : Type 0 where
  pub returned : number ≡ (station_meaning r x).number
  pub placed : place ≡ (station_meaning r x).place
  pub estimate_written : estimate-next ≡ written number (station_meaning r x).density estimate
  pub judged : StationJudged r x (refused number place)
  -- an estimate that is written is a finite number from 0 to J: welgadou_candidate accepts it on the same road, in each of its three places
  pub feeds : number ≡ 0 → FiniteUpTo r.jam estimate-next
  -- welgadou_station_speed: the estimate lies from C to J, both included, and 18 is never returned
  pub lone_speed : (s : Float) → x ≡ Speed s → number ≡ 0 → FiniteFrom r.critical r.jam estimate-next
  pub never_18 : (s : Float) → x ≡ Speed s → number ≡ 18 → ⊥
