-- Forecasts in a chain, each fed the last one's cells and totals: the totals since commissioning (document 02, E4).
use Rattle.std.specs.Prelude.{◌≡◌, List, [], ◌∷◌, ℕ, ◌+◌, length}
use Rattle.road.specs.declared.Road.{Road}
use Rattle.scheme.specs.Sums.{sum}
use Rattle.scheme.specs.declared.many_steps.Totals.{Totals}
use Rattle.forecast.specs.Answers.{ForecastAnswer}
use Rattle.refusal.specs.Answer.{Done, Refused}
use Rattle.forecast.specs.Forecast.{forecast_answer, forecast_cells, meaning}

-- a forecast of the chain: its road, its caps, its horizon, its end lists, and what its output held before
pub record Call : Type 0 where
  pub road : Road
  pub caps : List ℕ
  pub horizon : ℕ
  pub ups : List ℕ
  pub downs : List ℕ
  pub out : List ℕ

-- what a site carries from call to call
pub record Site : Type 0 where
  pub cells : List ℕ
  pub totals : Totals

-- what a call at the site answers, and what it leaves in its output
abbrev pub answer_to : Site → Call → ForecastAnswer
answer_to s c = forecast_answer c.road c.caps s.cells c.ups c.downs c.horizon s.totals (length c.out)

abbrev pub output_of : Site → Call → List ℕ
output_of s c = forecast_cells c.road c.caps s.cells c.ups c.downs c.horizon s.totals c.out

-- the site fed with "the last one's cells and totals", next being the output at exit; "a refused call in the chain alters neither"
abbrev pub fed : Site → List ℕ → ForecastAnswer → Site
fed s next (Done d) = record { cells = next; totals = d.totals }
fed s next (Refused f) = s

abbrev pub after_call : Site → Call → Site
after_call s c = fed s (output_of s c) (answer_to s c)

-- the site after the last call
unfoldable pub after_all : Site → List Call → Site
after_all s [] = s
after_all s (c ∷ cs) = after_all (after_call s c) cs

-- the sums of the accepted calls' own entered and left: a refused call's are 0
unfoldable pub all_entered : Site → List Call → ℕ
all_entered s [] = 0
all_entered s (c ∷ cs) = (meaning (answer_to s c)).entered + all_entered (after_call s c) cs

unfoldable pub all_left : Site → List Call → ℕ
all_left s [] = 0
all_left s (c ∷ cs) = (meaning (answer_to s c)).left + all_left (after_call s c) cs

-- a chain "that begins with both totals 0"
abbrev pub Commissioned : Site → Type 0
Commissioned s = (s.totals.entered ≡ 0) × (s.totals.left ≡ 0)

-- from a commissioned site: "units at commissioning plus entered minus left are the units on the road", and the totals are what all accepted calls counted
pub record Chained (s : Site) (calls : List Call) : Type 0 where
  pub balanced : sum s.cells + (after_all s calls).totals.entered ≡ sum (after_all s calls).cells + (after_all s calls).totals.left
  pub entered_total : (after_all s calls).totals.entered ≡ all_entered s calls
  pub left_total : (after_all s calls).totals.left ≡ all_left s calls

-- what is so of a refused call: the site's cells and totals are the same, and so is the output
pub record Unaltered (s : Site) (c : Call) : Type 0 where
  pub site : after_call s c ≡ s
  pub output : output_of s c ≡ c.out
