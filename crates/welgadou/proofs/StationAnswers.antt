-- From a station's answer to what its C calls return and write.
use mathlib.Core.Path.{◌≡◌, ◌∙◌, sym, ap}
use native.Mathlib.Omega.{arith}
use lib.Ieee.{Float}
use Rattle.refusal.specs.Table.{refused}
use Rattle.refusal.specs.Outcome.{Outcome}
use Rattle.road.specs.declared.Road.{Road}
use Rattle.station.specs.declared.stations.StationReading.{StationReading}
use Rattle.station.specs.declared.stations.Estimate.{Estimate}
use Rattle.station.specs.Answers.{StationAnswer}
use Rattle.refusal.specs.Answer.{Done, Refused}
use Rattle.station.specs.Station as Station
use Rattle.station.specs.Station.{station_answer, station_meaning, StationJudged}
use Rattle.welgadou.specs.Stations.{StationEstimated}
use Rattle.welgadou.proofs.Answers.{meaning_along, judged_told, refusal_counts, former_when_refused}

module _ {r : Road} {x : StationReading} {a : StationAnswer} (called : Station.Stations r x a) where
  station_told : {b : StationAnswer} → a ≡ b → StationJudged r x (refused (Station.meaning b).number (Station.meaning b).place)
  station_told e = judged_told (StationJudged r x) (λ (y : StationAnswer). refused (Station.meaning y).number (Station.meaning y).place) e called.judged

  pub station_done : {d : Estimate} {estimate : Float} → a ≡ Done d → StationEstimated r x estimate d.density 0 0
  station_done {d} e =
      let m = meaning_along Station.meaning e called.means in
      record {
        returned = ap (λ (y : Station.Meaning). y.number) m;
        placed = ap (λ (y : Station.Meaning). y.place) m;
        estimate_written = ap (λ (y : Station.Meaning). y.density) m;
        judged = station_told e;
        feeds = λ z. called.feeds d e;
        lone_speed = λ s given z. called.lone_speed s given d e;
        never_18 = λ s given z. omega arith;
      }

  pub station_refused : {f : Outcome} {estimate : Float} → a ≡ Refused f → StationEstimated r x estimate estimate f.place f.number
  unfolding station_answer station_meaning
  station_refused {f} e =
      let m = meaning_along Station.meaning e called.means in
      let number = ap (λ (y : Station.Meaning). y.number) m in
      let counts : f.number ≡ 0 → ⊥ = refusal_counts _ (λ q. cc (sym e ∙ q)) called.answer number in
      record {
        returned = number;
        placed = ap (λ (y : Station.Meaning). y.place) m;
        estimate_written = former_when_refused counts _ _;
        judged = station_told e;
        feeds = λ z. absurd (counts z);
        lone_speed = λ s given z. absurd (counts z);
        never_18 = λ s given z. called.never_18 s given (ap (λ (y : StationAnswer). (Station.meaning y).number) e ∙ z);
      }
