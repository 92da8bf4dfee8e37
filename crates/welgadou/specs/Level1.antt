-- What the C calls of Level 1 promise: the number returned, and every pointer's contents, from the definitions of the calls below.
use Rattle.std.specs.Prelude.{◌≡◌, Bool, List, ℕ, length}
use Rattle.refusal.specs.Table.{refused}
use Rattle.road.specs.declared.Road.{Road}
use Rattle.scheme.specs.ByFaces.{RunByFaces}
use Rattle.scheme.specs.declared.many_steps.Totals.{Totals}
use Rattle.forecast.specs.Forecast.{increased, forecast_meaning, forecast_cells, ForecastJudged, Demand3}
use Rattle.forecast.specs.Settle.{settle_meaning, settle_output, SettleJudged, Settlement}
use Rattle.welgadou.specs.Parts.{totals_of, written, flag_of}

-- welgadou_forecast, exported as welgadou_forecast_3: the cells, the units entered and left, and the totals, which are those so far at entry and stay so where the
-- call refuses
pub record Forecasted (r : Road) (caps cells ups downs : List ℕ) (t : ℕ) (out next : List ℕ) (entered entered-next left left-next : ℕ) (totals totals_next : Totals)
    (place number : ℕ) : Type 0 where
  pub returned : number ≡ (forecast_meaning r caps cells ups downs t totals (length out)).number
  pub placed : place ≡ (forecast_meaning r caps cells ups downs t totals (length out)).place
  pub output : next ≡ forecast_cells r caps cells ups downs t totals out
  pub entered_written : entered-next ≡ written number (forecast_meaning r caps cells ups downs t totals (length out)).entered entered
  pub left_written : left-next ≡ written number (forecast_meaning r caps cells ups downs t totals (length out)).left left
  pub total_entered_written : totals_next.entered ≡ written number (forecast_meaning r caps cells ups downs t totals (length out)).total_entered totals.entered
  pub total_left_written : totals_next.left ≡ written number (forecast_meaning r caps cells ups downs t totals (length out)).total_left totals.left
  -- demands 1, 3 and 2, of the number and place returned and of what is written
  pub judged : ForecastJudged r caps cells ups downs t totals (length out) (refused number place)
  pub demand3 : number ≡ 0 → Demand3 r caps cells ups downs t next entered-next left-next
  pub by_faces : number ≡ 0 → RunByFaces r caps ups downs cells next entered-next left-next
  -- the totals are "increased by the call's own entered and left"
  pub carried : number ≡ 0 → totals_next ≡ increased totals (totals_of entered-next left-next)

-- welgadou_settle, exported as welgadou_settle_2: the state, whether it settled, the steps made
pub record SettledRun (r : Road) (caps cells : List ℕ) (up down t : ℕ) (out next : List ℕ) (settled settled-next steps steps_next place number : ℕ) : Type 0 where
  pub returned : number ≡ (settle_meaning r caps cells up down t (length out)).number
  pub placed : place ≡ (settle_meaning r caps cells up down t (length out)).place
  pub output : next ≡ settle_output r caps cells up down t out
  pub settled_written : settled-next ≡ written number (flag_of (settle_meaning r caps cells up down t (length out)).settled) settled
  pub steps_written : steps_next ≡ written number (settle_meaning r caps cells up down t (length out)).steps steps
  -- demand 1, and what an accepted run reports and hands back
  pub judged : SettleJudged r caps cells up down t (length out) (refused number place)
  pub settlement : number ≡ 0 → (b : Bool) × (settled-next ≡ flag_of b) × Settlement r caps cells up down t next (record { settled = b; steps = steps_next })
