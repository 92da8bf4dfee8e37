-- The station reading: what demand 1 says of it, what an accepted one made, and what a lone speed gives, from its contracts.
use mathlib.Core.Path.{◌≡◌, ◌∙◌, refl, sym, ap}
use mathlib.Core.Logic.{inr}
use lib.Ieee.{Float}
use Rattle.refusal.proofs.Table.{◌&◌}
use Rattle.road.specs.declared.Road.{Road}
use Rattle.floats.specs.Worth.{FiniteUpTo, FiniteFrom}
use Rattle.station.specs.declared.stations.StationReading.{StationReading}
use Rattle.station.specs.declared.stations.StationReading.TheVariants.{Speed}
use Rattle.station.specs.Station.{estimate_of, station_checks, station_refusal, station_answer, Meaning, meaning, station_meaning}
use Rattle.commission.specs.Outcome.{Outcome}
use Rattle.commission.specs.StationCall.{CalledStation, station, welgadou_station, AcceptedStation, StationMade, AskedStation, StationAsked}
use Rattle.commission.specs.Table.{given, fast, result, AllNamed}
use Rattle.commission.proofs.Told.{value_of, former_of, road_named, Told}

station_named : (r : Road) (x : StationReading) → AllNamed (station_checks r x)
station_named r x = road_named r (given x & fast r x & result r x & tt)

pub station_told : (o : Outcome) → CalledStation o → Told o
unfolding station_refusal station_answer station_meaning
station_told _ (station c) = record {
  judged = c.judged;
  kept = λ n. tt;
  table = λ i. record { number = (c.means i).number; place = (c.means i).place };
  named = station_named _ _;
  numbers = refl;
  rise = inr (inr tt);
  made = λ z. (_, value_of _ _ (sym (ap (λ (m : Meaning). m.number) c.means) ∙ z) c.answer);
}
station_told _ (welgadou_station c) = record {
  judged = c.judged;
  kept = λ n. former_of _ _ n c.estimate_written;
  table = λ i. record { number = c.returned i; place = c.placed i };
  named = station_named _ _;
  numbers = refl;
  rise = inr (inr tt);
  made = λ z. tt;
}

pub station_says : (x : AcceptedStation) → StationMade x → (x.estimate ≡ estimate_of x.road x.reading) × FiniteUpTo x.road.jam x.estimate
unfolding station_meaning
station_says _ (station {e = d} c e) =
    let m = ap meaning (sym e) ∙ c.means in
    (value_of _ _ (sym (ap (λ (x : Meaning). x.number) m)) (ap (λ (x : Meaning). x.density) m), c.feeds d e)
station_says _ (welgadou_station c z) = (value_of _ _ (sym c.returned ∙ z) (value_of _ _ z c.estimate_written), c.feeds z)

-- a lone speed
pub lone_says : (x : AcceptedStation) → StationMade x → (s : Float) → x.reading ≡ Speed s → FiniteFrom x.road.critical x.road.jam x.estimate
lone_says _ (station {e = d} c e) s q = c.lone_speed s q d e
lone_says _ (welgadou_station c z) s q = c.lone_speed s q z

pub lone_never_18 : (x : AskedStation) → StationAsked x → (s : Float) → x.reading ≡ Speed s → x.number ≡ 18 → ⊥
lone_never_18 _ (station c) = c.never_18
lone_never_18 _ (welgadou_station c) = c.never_18
