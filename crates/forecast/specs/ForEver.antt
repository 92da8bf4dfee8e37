-- Forecasts and settling runs in a chain, each fed the last one's cells: the promise about the years that nobody watches. A forecast's part in it is `after_call` of `Chain`,
-- told again call by call.
use Rattle.std.specs.Prelude.{◌≡◌, List, [], ◌∷◌, ℕ, ◌+◌, ◌≤◌, length, replicate}
use Rattle.road.specs.Ceilings.{horizon_ceiling}
use Rattle.road.specs.declared.Road.{Road}
use Rattle.scheme.specs.Sums.{sum, Below}
use Rattle.scheme.specs.Rounded.{entered, left}
use Rattle.scheme.specs.declared.settling.Settled.{Settled}
use Rattle.forecast.specs.declared.forecasting.Record.{Record}
use Rattle.forecast.specs.Answers.{SettleAnswer}
use Rattle.refusal.specs.Answer.{Done, Refused}
use Rattle.forecast.specs.Forecast.{meaning}
use Rattle.forecast.specs.Settle.{settle_answer, settle_output, meaning as settle_meaning}
use Rattle.forecast.specs.Chain.{Call, Site, answer_to, after_call}

-- a settling run of the chain: its caps, its horizon, its end pair, and what its output held before
pub record SettleCall : Type 0 where
  pub caps : List ℕ
  pub horizon : ℕ
  pub up : ℕ
  pub down : ℕ
  pub out : List ℕ

-- one call of the chain
pub data AnyCall : Type 0 where
  forecast : Call → AnyCall
  settle : SettleCall → AnyCall

-- its horizon, ends, output and caps pass their checks, on n cells of the road
pub record ForecastPasses (r : Road) (n : ℕ) (c : Call) : Type 0 where
  pub same_road : c.road ≡ r
  pub horizon_high : c.horizon ≤ horizon_ceiling
  pub ups_long : length c.ups ≡ c.horizon
  pub downs_long : length c.downs ≡ c.horizon
  pub output_long : length c.out ≡ n
  pub caps_long : length c.caps ≡ n + 1
  pub ups_below : Below r.jam c.ups
  pub downs_below : Below r.jam c.downs

pub record SettlePasses (r : Road) (n : ℕ) (c : SettleCall) : Type 0 where
  pub horizon_high : c.horizon ≤ horizon_ceiling
  pub output_long : length c.out ≡ n
  pub caps_long : length c.caps ≡ n + 1
  pub up_below : c.up ≤ r.jam
  pub down_below : c.down ≤ r.jam

abbrev pub Passes : Road → ℕ → AnyCall → Type 0
Passes r n (forecast c) = ForecastPasses r n c
Passes r n (settle c) = SettlePasses r n c

abbrev pub AllPass : Road → ℕ → List AnyCall → Type 0
AllPass r n [] = Unit {0}
AllPass r n (c ∷ cs) = Passes r n c × AllPass r n cs

-- the steps of all forecasts together, and how many of them totals of 0 surely have room for: a step moves at most 1,000,000 units over a face
abbrev pub forecast_steps : List AnyCall → ℕ
forecast_steps [] = 0
forecast_steps (forecast c ∷ cs) = c.horizon + forecast_steps cs
forecast_steps (settle c ∷ cs) = forecast_steps cs

abbrev pub lifetime : ℕ
lifetime = 18446744073709

-- what a settling run answers; the steps that it reports
abbrev pub settle_answer_to : Road → Site → SettleCall → SettleAnswer
settle_answer_to r s c = settle_answer r c.caps s.cells c.up c.down c.horizon (length c.out)

abbrev pub steps_reported : Road → Site → SettleCall → ℕ
steps_reported r s c = (settle_meaning (settle_answer_to r s c)).steps

-- the call answers Done
abbrev pub IsDone : Road → Site → AnyCall → Type 0
IsDone r s (forecast c) = (d : Record) × (answer_to s c ≡ Done d)
IsDone r s (settle c) = (d : Settled) × (settle_answer_to r s c ≡ Done d)

-- the site after a call: a settling run takes no totals and hands none on, so that the totals here are those of the forecasts alone
abbrev pub settled : Site → List ℕ → SettleAnswer → Site
settled s next (Done d) = record { cells = next; totals = s.totals }
settled s next (Refused f) = s

abbrev pub site_after : Road → Site → AnyCall → Site
site_after r s (forecast c) = after_call s c
site_after r s (settle c) = settled s (settle_output r c.caps s.cells c.up c.down c.horizon c.out) (settle_answer_to r s c)

-- the units over face 0 and over face n in a call: those that a forecast's answer reports; those that the steps of a settling run move, each step with its end pair
abbrev pub entered_in : Road → Site → AnyCall → ℕ
entered_in r s (forecast c) = (meaning (answer_to s c)).entered
entered_in r s (settle c) = entered r c.caps (replicate (steps_reported r s c) c.up) (replicate (steps_reported r s c) c.down) s.cells

abbrev pub left_in : Road → Site → AnyCall → ℕ
left_in r s (forecast c) = (meaning (answer_to s c)).left
left_in r s (settle c) = left r c.caps (replicate (steps_reported r s c) c.up) (replicate (steps_reported r s c) c.down) s.cells

-- the cells after the last call
unfoldable pub last_cells : Road → Site → List AnyCall → List ℕ
last_cells r s [] = s.cells
last_cells r s (c ∷ cs) = last_cells r (site_after r s c) cs

-- all that entered, and all that left
unfoldable pub entered_in_all : Road → Site → List AnyCall → ℕ
entered_in_all r s [] = 0
entered_in_all r s (c ∷ cs) = entered_in r s c + entered_in_all r (site_after r s c) cs

unfoldable pub left_in_all : Road → Site → List AnyCall → ℕ
left_in_all r s [] = 0
left_in_all r s (c ∷ cs) = left_in r s c + left_in_all r (site_after r s c) cs

-- every call answers Done
abbrev pub AllDone : Road → Site → List AnyCall → Type 0
AllDone r s [] = Unit {0}
AllDone r s (c ∷ cs) = IsDone r s c × AllDone r (site_after r s c) cs

-- every call hands back as many densities as it was given, each from 0 to jam
abbrev pub AllWithin : Road → Site → List AnyCall → Type 0
AllWithin r s [] = Unit {0}
AllWithin r s (c ∷ cs) =
    (length (site_after r s c).cells ≡ length s.cells) × Below r.jam (site_after r s c).cells × AllWithin r (site_after r s c) cs

-- for ever, as long as the totals surely have room: however many calls that pass, from a commissioned site on, while the forecasts' steps are within the lifetime
pub record ForEver (r : Road) (s : Site) (calls : List AnyCall) : Type 0 where
  pub done : AllDone r s calls
  pub within : AllWithin r s calls
  pub balanced : sum s.cells + entered_in_all r s calls ≡ sum (last_cells r s calls) + left_in_all r s calls
