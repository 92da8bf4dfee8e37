-- Station readings: a density estimate from one of three kinds of station (document 02, E1: checks 16, 17 and 18).
use Rattle.std.specs.Prelude.{◌≡◌, Bool, false, List, [], ◌∷◌, ◌++◌, ℕ, pos, Float}
use Rattle.std.specs.Float.{inf, binary64}
use Rattle.std.specs.Float.Ieee.{add, mul, div, lt, le, eq, ne, of_int, of_bits}
use Rattle.choice.specs.Choice.{or}
use Rattle.refusal.specs.Table.{Check, check, judge, refused, Judged, unless_refused}
use Rattle.road.specs.Judgement.{road_checks, Accepted}
use Rattle.road.specs.declared.Road.{Road}
use Rattle.refusal.specs.Outcome.{Outcome}
use Rattle.floats.specs.Worth.{FiniteUpTo, FiniteFrom, NotBelow0, Above0, SlowerThan}
use Rattle.candidate.specs.Candidate.{bad_estimate}
use Rattle.station.specs.declared.stations.StationReading.{StationReading}
use Rattle.station.specs.declared.stations.StationReading.TheVariants.{Density, FlowAndSpeed, Speed}
use Rattle.station.specs.declared.stations.Estimate.{Estimate}
use Rattle.station.specs.Answers.{StationAnswer}
use Rattle.refusal.specs.Answer.{Done, Refused}

-- a whole number of the road, as a float
abbrev pub whole : ℕ → Float
whole n = of_int binary64 (pos n)

-- +0.0, which no comparison tells from −0.0
abbrev pub zero : Float
zero = of_bits binary64 0

-- "the rounded s × D", of a speed s in cells per step
abbrev pub times_divisor : Road → Float → Float
times_divisor r s = mul binary64 s (whole r.divisor)

-- "A speed s alone gives q × J divided by (s × D + q), from 004 (II.3). Each operation rounds once"; q × J is exact (`wave_jam`)
unfoldable pub speed_density : Road → Float → Float
speed_density r s = div binary64 (mul binary64 (whole r.wave) (whole r.jam)) (add binary64 (times_divisor r s) (whole r.wave))

-- "A density passes unchanged. A flow is divided by its speed." A lone speed as above
unfoldable pub estimate_of : Road → StationReading → Float
estimate_of r (Density d) = d
estimate_of r (FlowAndSpeed f s) = div binary64 f s
estimate_of r (Speed s) = speed_density r s

-- "not a number, below 0 or infinite". −0.0 is not below 0, and −∞ is
unfoldable pub bad_number : Float → Bool
bad_number x = or (ne x x) (or (lt x zero) (eq x (inf false)))

-- 16: a given number that is bad, or a zero speed beside a flow
unfoldable pub bad_given : StationReading → Bool
bad_given (Density d) = bad_number d
bad_given (FlowAndSpeed f s) = or (bad_number f) (or (bad_number s) (eq s zero))
bad_given (Speed s) = bad_number s

-- 17: "a lone speed with that s × D at or above p"
unfoldable pub too_fast : Road → StationReading → Bool
too_fast r (Density d) = false
too_fast r (FlowAndSpeed f s) = false
too_fast r (Speed s) = le (whole r.free) (times_divisor r s)

-- 18: "a result outside 0 to J", by the test of an estimate of check 14
abbrev pub bad_result : Road → StationReading → Bool
bad_result r x = bad_estimate r.jam (estimate_of r x)

-- checks 16 to 18; each reports place 0
abbrev pub given_check : StationReading → Check
given_check x = check (bad_given x) 16 0

abbrev pub fast_check : Road → StationReading → Check
fast_check r x = check (too_fast r x) 17 0

abbrev pub result_check : Road → StationReading → Check
result_check r x = check (bad_result r x) 18 0

abbrev pub given_checks : Road → StationReading → List Check
given_checks r x = given_check x ∷ fast_check r x ∷ result_check r x ∷ []

-- "After the road checks": 1 to 4, then 16 to 18
abbrev pub station_checks : Road → StationReading → List Check
station_checks r x = road_checks r ++ given_checks r x

unfoldable pub station_refusal : Road → StationReading → Outcome
station_refusal r x = judge (station_checks r x)

unfoldable pub station_answer : Road → StationReading → StationAnswer
station_answer r x =
    unless_refused (station_refusal r x) (Done (record { density = estimate_of r x })) (Refused (station_refusal r x))

-- the paper's numbers of an answer: number (0 when accepted), place, the estimate (0.0 when refused)
pub record Meaning : Type 0 where
  pub number : ℕ
  pub place : ℕ
  pub density : Float

abbrev pub meaning : StationAnswer → Meaning
meaning (Done e) = record { number = 0; place = 0; density = e.density }
meaning (Refused f) = record { number = f.number; place = f.place; density = zero }

unfoldable pub station_meaning : Road → StationReading → Meaning
station_meaning r x = record {
  number = (station_refusal r x).number;
  place = (station_refusal r x).place;
  density = unless_refused (station_refusal r x) (estimate_of r x) zero;
}

-- what a reading is that 16 lets through, kind by kind: each number given is finite and not below 0, and a speed beside a flow above 0
abbrev pub Given : StationReading → Type 0
Given (Density d) = NotBelow0 d
Given (FlowAndSpeed f s) = NotBelow0 f × Above0 s
Given (Speed s) = NotBelow0 s

-- what 17 asks of it besides: "the rounded s × D must be below p" of a lone speed, and so is a finite number from 0 on
abbrev pub Slow : Road → StationReading → Type 0
Slow r (Density d) = Unit {0}
Slow r (FlowAndSpeed f s) = Unit {0}
Slow r (Speed s) = SlowerThan r.free (times_divisor r s)

-- what an input that no check refuses is
pub record StationChecked (r : Road) (x : StationReading) : Type 0 where
  pub accepted : Accepted r
  pub given : Given x
  pub slow : Slow r x
  pub finite : FiniteUpTo r.jam (estimate_of r x)

-- demand 1 of a refusal, of the station's checks: every place is 0
abbrev pub StationJudged : Road → StationReading → Outcome → Type 0
StationJudged r x f = Judged (station_checks r x) (StationChecked r x) (λ g. g.place ≡ 0) f

-- what the call promises; an estimate that comes back is a finite number from 0 to J, so that candidate prediction accepts it on the same road
pub record Stations (r : Road) (x : StationReading) (a : StationAnswer) : Type 0 where
  pub answer : a ≡ station_answer r x
  pub means : meaning a ≡ station_meaning r x
  pub judged : StationJudged r x (refused (meaning a).number (meaning a).place)
  pub feeds : (e : Estimate) → a ≡ Done e → FiniteUpTo r.jam e.density
  -- of a lone speed it lies from C to J, both included, so that such a reading is refused with 16 or 17 alone besides the road's numbers
  pub lone_speed : (s : Float) → x ≡ Speed s → (e : Estimate) → a ≡ Done e → FiniteFrom r.critical r.jam e.density
  pub never_18 : (s : Float) → x ≡ Speed s → (meaning a).number ≡ 18 → ⊥
