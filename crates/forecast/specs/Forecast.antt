-- The forecast: its checks of the refusal table, its answer, its output, the totals since commissioning, and demand 3.
use Rattle.std.specs.Prelude.{◌≡◌, Bool, List, [], ◌∷◌, ◌++◌, ℕ, ◌+◌, ◌-◌, ◌*◌, ◌^◌, ◌≤◌, ltb, length}
use Rattle.choice.specs.Choice.{or}
use Rattle.refusal.specs.Table.{Check, check, judge, refused, Judged, unless_refused}
use Rattle.road.specs.Ceilings.{cells_ceiling, horizon_ceiling}
use Rattle.road.specs.Judgement.{road_checks, Accepted}
use Rattle.road.specs.declared.Road.{Road}
use Rattle.refusal.specs.Outcome.{Outcome}
use Rattle.checks.specs.Checks.{cells_check, horizon_check, ends_check, output_check, caps_check, value_checks}
use Rattle.checks.specs.Places.{Placed}
use Rattle.scheme.specs.Sums.{sum, distance, times, Below}
use Rattle.scheme.specs.Rounded.{round_run, entered, left}
use Rattle.scheme.specs.ByFaces.{RunByFaces, ExactRunByFaces}
use Rattle.scheme.specs.Exact.{exact_run}
use Rattle.scheme.specs.declared.many_steps.Totals.{Totals}
use Rattle.forecast.specs.declared.forecasting.Record.{Record}
use Rattle.forecast.specs.Answers.{ForecastAnswer}
use Rattle.refusal.specs.Answer.{Done, Refused}

-- checks 5 to 8 and 20, over the numbers of caps, of cells, of upstream and downstream ends, the horizon, and the output's length: 20 "after 8 and before 9" (document 02, E7)
abbrev pub list_checks : ℕ → ℕ → ℕ → ℕ → ℕ → ℕ → List Check
list_checks caps cells ups downs t out = cells_check cells ∷ horizon_check t ∷ ends_check t ups downs ∷ output_check cells out ∷ caps_check cells caps ∷ []

-- checks 1 to 8 and 20
abbrev pub shape_checks : Road → ℕ → ℕ → ℕ → ℕ → ℕ → ℕ → List Check
shape_checks r caps cells ups downs t out = road_checks r ++ list_checks caps cells ups downs t out

-- "forecast 1–11", with 20 before 9
abbrev pub input_checks : Road → List ℕ → List ℕ → List ℕ → List ℕ → ℕ → ℕ → List Check
input_checks r caps cells ups downs t out = shape_checks r (length caps) (length cells) (length ups) (length downs) t out ++ value_checks r cells ups downs

unfoldable pub input_refusal : Road → List ℕ → List ℕ → List ℕ → List ℕ → ℕ → ℕ → Outcome
input_refusal r caps cells ups downs t out = judge (input_checks r caps cells ups downs t out)

-- "the call's own entered and left" (document 02, E4)
abbrev pub own_of : Road → List ℕ → List ℕ → List ℕ → List ℕ → Totals
own_of r caps cells ups downs = record { entered = entered r caps ups downs cells; left = left r caps ups downs cells }

-- the totals so far, "increased by the call's own entered and left"
abbrev pub increased : Totals → Totals → Totals
increased so_far own = record { entered = so_far.entered + own.entered; left = so_far.left + own.left }

-- "18,446,744,073,709,551,615", the largest total, and "a total that would pass" it: the sum is that of whole numbers, which neither wraps nor stops there
abbrev pub largest : ℕ
largest = 18446744073709551615

abbrev pub passes_largest : ℕ → ℕ → Bool
passes_largest so_far own = ltb largest (so_far + own)

-- 19, of either total
abbrev pub total_check : Totals → Totals → Check
total_check so_far own = check (or (passes_largest so_far.entered own.entered) (passes_largest so_far.left own.left)) 19 0

abbrev pub total_checks : Road → List ℕ → List ℕ → List ℕ → List ℕ → Totals → List Check
total_checks r caps cells ups downs totals = total_check totals (own_of r caps cells ups downs) ∷ []

-- 1 to 8, 20, 9 to 11, and 19 "checked last": the call's order of checks
abbrev pub forecast_checks : Road → List ℕ → List ℕ → List ℕ → List ℕ → ℕ → Totals → ℕ → List Check
forecast_checks r caps cells ups downs t totals out = input_checks r caps cells ups downs t out ++ total_checks r caps cells ups downs totals

unfoldable pub forecast_refusal : Road → List ℕ → List ℕ → List ℕ → List ℕ → ℕ → Totals → ℕ → Outcome
forecast_refusal r caps cells ups downs t totals out = judge (forecast_checks r caps cells ups downs t totals out)

-- what an accepted forecast hands back: the units of its own steps, and the totals increased by them
abbrev pub carried_on : Totals → Totals → Record
carried_on so_far own = record { own = own; totals = increased so_far own }

abbrev pub record_of : Road → List ℕ → List ℕ → List ℕ → List ℕ → Totals → Record
record_of r caps cells ups downs totals = carried_on totals (own_of r caps cells ups downs)

-- the answer: Done with that record, or the refusal
unfoldable pub forecast_answer : Road → List ℕ → List ℕ → List ℕ → List ℕ → ℕ → Totals → ℕ → ForecastAnswer
forecast_answer r caps cells ups downs t totals out =
    unless_refused (forecast_refusal r caps cells ups downs t totals out)
    (Done (record_of r caps cells ups downs totals))
    (Refused (forecast_refusal r caps cells ups downs t totals out))

-- the output: the cells after the steps of the end lists, T of them, or its former contents
unfoldable pub forecast_cells : Road → List ℕ → List ℕ → List ℕ → List ℕ → ℕ → Totals → List ℕ → List ℕ
forecast_cells r caps cells ups downs t totals out =
    unless_refused (forecast_refusal r caps cells ups downs t totals (length out)) (round_run r caps ups downs cells) out

-- the paper's numbers of an answer: number (0 when accepted), place, its own entered and left, both totals; refused, 0 stands for what is not given
pub record Meaning : Type 0 where
  pub number : ℕ
  pub place : ℕ
  pub entered : ℕ
  pub left : ℕ
  pub total_entered : ℕ
  pub total_left : ℕ

abbrev pub meaning : ForecastAnswer → Meaning
meaning (Done d) = record {
  number = 0;
  place = 0;
  entered = d.own.entered;
  left = d.own.left;
  total_entered = d.totals.entered;
  total_left = d.totals.left;
}
meaning (Refused f) = record { number = f.number; place = f.place; entered = 0; left = 0; total_entered = 0; total_left = 0 }

-- the numbers that the documents ask for: the table's number and place, and where nothing is refused the sums of the steps and the totals
unfoldable pub forecast_meaning : Road → List ℕ → List ℕ → List ℕ → List ℕ → ℕ → Totals → ℕ → Meaning
forecast_meaning r caps cells ups downs t totals out = record {
  number = (forecast_refusal r caps cells ups downs t totals out).number;
  place = (forecast_refusal r caps cells ups downs t totals out).place;
  entered = unless_refused (forecast_refusal r caps cells ups downs t totals out) (entered r caps ups downs cells) 0;
  left = unless_refused (forecast_refusal r caps cells ups downs t totals out) (left r caps ups downs cells) 0;
  total_entered = unless_refused (forecast_refusal r caps cells ups downs t totals out) (totals.entered + entered r caps ups downs cells) 0;
  total_left = unless_refused (forecast_refusal r caps cells ups downs t totals out) (totals.left + left r caps ups downs cells) 0;
}

-- what an input is that the checks before 19 let through
pub record InputChecked (r : Road) (caps cells ups downs : List ℕ) (t out : ℕ) : Type 0 where
  pub accepted : Accepted r
  pub cells_low : 1 ≤ length cells
  pub cells_high : length cells ≤ cells_ceiling
  pub horizon_high : t ≤ horizon_ceiling
  pub ups_long : length ups ≡ t
  pub downs_long : length downs ≡ t
  pub output_long : out ≡ length cells
  pub caps_long : length caps ≡ length cells + 1
  pub cells_below : Below r.jam cells
  pub ups_below : Below r.jam ups
  pub downs_below : Below r.jam downs

-- both totals, increased by the own units, are within the largest
pub record Fits (totals own : Totals) : Type 0 where
  pub entered_fits : totals.entered + own.entered ≤ largest
  pub left_fits : totals.left + own.left ≤ largest

-- what an input that no check refuses is
pub record Checked (r : Road) (caps cells ups downs : List ℕ) (t : ℕ) (totals : Totals) (out : ℕ) : Type 0 where
  pub input : InputChecked r caps cells ups downs t out
  pub fits : Fits totals (own_of r caps cells ups downs)

-- demand 1 of a refusal, of the forecast's checks
abbrev pub ForecastJudged : Road → List ℕ → List ℕ → List ℕ → List ℕ → ℕ → Totals → ℕ → Outcome → Type 0
ForecastJudged r caps cells ups downs t totals out f =
    Judged (forecast_checks r caps cells ups downs t totals out) (Checked r caps cells ups downs t totals out) (Placed r cells ups downs) f

-- demand 3 of the commission, of what the output holds at exit with the answer's entered and left, on n cells and T steps; "the distance limit covers closed lanes too" (document 02, E7)
pub record Demand3 (r : Road) (caps cells ups downs : List ℕ) (t : ℕ) (next : List ℕ) (in_sum out_sum : ℕ) : Type 0 where
  -- the densities after document 01's T steps, one for each pair of ends, each face under its cap
  pub ups_long : length ups ≡ t
  pub downs_long : length downs ≡ t
  pub after_steps : next ≡ round_run r caps ups downs cells
  -- n of them, and as many exact ones
  pub long : length next ≡ length cells
  pub exact_long : length (exact_run r caps 1 ups downs cells) ≡ length cells
  -- the exact scheme is what document 01 says, under the same caps, with no subtraction cut off
  pub exact_steps : ExactRunByFaces r caps 1 ups downs cells (exact_run r caps 1 ups downs cells)
  -- every density from 0 to jam
  pub within : Below r.jam next
  -- units at the start plus entered equal units at the end plus left
  pub balanced : sum cells + in_sum ≡ sum next + out_sum
  -- D times the summed distance from the exact scheme, at scale D to the power T, is at most n × T × (D − 1) at that scale
  pub near : r.divisor * distance (times (r.divisor ^ t) next) (exact_run r caps 1 ups downs cells) ≤ length cells * t * (r.divisor - 1) * r.divisor ^ t

-- what the call promises: a the answer, totals those so far, out what the output held at entry, next what it holds at exit
pub record Forecasts (r : Road) (caps cells ups downs : List ℕ) (t : ℕ) (totals : Totals) (out next : List ℕ) (a : ForecastAnswer) : Type 0 where
  pub answer : a ≡ forecast_answer r caps cells ups downs t totals (length out)
  pub means : meaning a ≡ forecast_meaning r caps cells ups downs t totals (length out)
  pub output : next ≡ forecast_cells r caps cells ups downs t totals out
  pub judged : ForecastJudged r caps cells ups downs t totals (length out) (refused (meaning a).number (meaning a).place)
  -- "these own counts ... are what demand 3 means"
  pub demand3 : (d : Record) → a ≡ Done d → Demand3 r caps cells ups downs t next d.own.entered d.own.left
  -- demand 2: "a step moves the whole units of each face's flow", no more than its cap, told face by face, with entered and left
  pub by_faces : (d : Record) → a ≡ Done d → RunByFaces r caps ups downs cells next d.own.entered d.own.left
  -- "hands them back increased by the call's own entered and left"
  pub carried : (d : Record) → a ≡ Done d → d.totals ≡ increased totals d.own
