-- The forecast among the public calls: the numbers of its checks, what it did with any input, and what it made of an accepted one.
use Rattle.std.specs.Prelude.{◌≡◌, List, [], ◌∷◌, ℕ, length}
use Rattle.refusal.specs.Table.{refused}
use Rattle.refusal.specs.Outcome.{Outcome as Refusal}
use Rattle.road.specs.declared.Road.{Road}
use Rattle.scheme.specs.declared.many_steps.Totals.{Totals}
use Rattle.forecast.specs.declared.forecasting.Record.{Record}
use Rattle.forecast.specs.Answers.{ForecastAnswer}
use Rattle.refusal.specs.Answer.{Done}
use Rattle.forecast.specs.Forecast.{forecast_checks, meaning, Checked, Forecasts}
use Rattle.forecast.specs.Chain.{Call, Site}
use Rattle.welgadou.specs.Level1.{Forecasted}
use Rattle.commission.specs.Outcome.{Outcome}
use Rattle.commission.specs.Places.{ValuePlaces}

-- "forecast 1–11" (document 01), 20 "after 8 and before 9" (document 02, E7), 19 "checked last" (E4)
abbrev pub forecast_numbers : List ℕ
forecast_numbers = 1 ∷ 2 ∷ 3 ∷ 4 ∷ 5 ∷ 6 ∷ 7 ∷ 8 ∷ 20 ∷ 9 ∷ 10 ∷ 11 ∷ 19 ∷ []

-- what came of it: f the refusal that came back
abbrev pub forecast_outcome : Road → List ℕ → List ℕ → List ℕ → List ℕ → ℕ → Totals → ℕ → Refusal → Type 0 → Type 0 → Outcome
forecast_outcome r caps cells ups downs t totals out f Kept Made = record {
  checks = forecast_checks r caps cells ups downs t totals out;
  numbers = forecast_numbers;
  Checked = Checked r caps cells ups downs t totals out;
  Placed = ValuePlaces r cells ups downs;
  refusal = f;
  Kept = Kept;
  Made = Made;
}

pub data CalledForecast : Outcome → Type 1 where
  forecast : {r : Road} {caps cells ups downs : List ℕ} {t : ℕ} {totals : Totals} {out next : List ℕ} {a : ForecastAnswer}
      → Forecasts r caps cells ups downs t totals out next a
      → CalledForecast (forecast_outcome r caps cells ups downs t totals (length out) (refused (meaning a).number (meaning a).place)
      (next ≡ out)
      ((d : Record) × (a ≡ Done d)))
  welgadou_forecast : {r : Road} {caps cells ups downs : List ℕ} {t : ℕ} {totals totals_next : Totals} {out next : List ℕ} {entered entered-next left left-next place number : ℕ}
      → Forecasted r caps cells ups downs t out next entered entered-next left left-next totals totals_next place number
      → CalledForecast (forecast_outcome r caps cells ups downs t totals (length out) (refused number place)
      ((next ≡ out) × (entered-next ≡ entered) × (left-next ≡ left) × (totals_next.entered ≡ totals.entered) × (totals_next.left ≡ totals.left))
      (Unit {0}))

-- what an accepted call was given and what it made, of either layer: Done, or number 0
pub record AcceptedForecast : Type 0 where
  pub road : Road
  pub caps : List ℕ
  pub cells : List ℕ
  pub ups : List ℕ
  pub downs : List ℕ
  pub horizon : ℕ
  pub totals : Totals
  pub next : List ℕ
  pub entered : ℕ
  pub left : ℕ
  pub totals_next : Totals

-- Done with its record d, whose own counts are what it reports
abbrev pub accepted_forecast : Road → List ℕ → List ℕ → List ℕ → List ℕ → ℕ → Totals → List ℕ → Record → AcceptedForecast
accepted_forecast r caps cells ups downs t totals next d = record {
  road = r;
  caps = caps;
  cells = cells;
  ups = ups;
  downs = downs;
  horizon = t;
  totals = totals;
  next = next;
  entered = d.own.entered;
  left = d.own.left;
  totals_next = d.totals;
}

pub data ForecastMade : AcceptedForecast → Type 0 where
  forecast : {r : Road} {caps cells ups downs : List ℕ} {t : ℕ} {totals : Totals} {out next : List ℕ} {a : ForecastAnswer} {d : Record}
      → Forecasts r caps cells ups downs t totals out next a → a ≡ Done d → ForecastMade (accepted_forecast r caps cells ups downs t totals next d)
  welgadou_forecast : {r : Road} {caps cells ups downs : List ℕ} {t : ℕ} {totals totals_next : Totals} {out next : List ℕ} {entered entered-next left left-next place number : ℕ}
      → Forecasted r caps cells ups downs t out next entered entered-next left left-next totals totals_next place number → number ≡ 0
      → ForecastMade (accepted_forecast r caps cells ups downs t totals next (record { own = record { entered = entered-next; left = left-next }; totals = totals_next }))

-- where it was made, as a call of `forecast`'s specs/Chain.antt, with what its output held; and the site that it leaves
abbrev pub site_before : AcceptedForecast → Site
site_before x = record { cells = x.cells; totals = x.totals }

abbrev pub call_of : AcceptedForecast → List ℕ → Call
call_of x out = record { road = x.road; caps = x.caps; horizon = x.horizon; ups = x.ups; downs = x.downs; out = out }

abbrev pub site_left : AcceptedForecast → Site
site_left x = record { cells = x.next; totals = x.totals_next }

-- a forecast that goes on where another ends: on its road, under its caps, from the cells that it handed back
pub record Continued (first second : AcceptedForecast) : Type 0 where
  pub same_road : second.road ≡ first.road
  pub same_caps : second.caps ≡ first.caps
  pub fed_cells : second.cells ≡ first.next

-- a "chain of accepted calls that begins with both totals 0, each fed with the last one's cells and totals" (document 02, E4): the cells at commissioning, those now,
-- and the totals now. The chain of `forecast`'s specs/Chain.antt told again, by contracts alone, so that its calls may be of either layer; what an accepted call feeds is the same (`SinceCommissioning.feeds`)
pub data ForecastChain (first : List ℕ) : List ℕ → Totals → Type 0 where
  commissioned : ForecastChain first first (record { entered = 0; left = 0 })
  fed : {cells : List ℕ} {totals : Totals} → ForecastChain first cells totals
      → (x : AcceptedForecast) → ForecastMade x → x.cells ≡ cells → x.totals ≡ totals → ForecastChain first x.next x.totals_next
