-- What the public calls hand to the scheme and take back from it: a pace of the road, a copy of the cells.
use mathlib.Core.Path.{◌≡◌, ◌∙◌, sym}
use mathlib.Core.Bool.{true, false≢true}
use mathlib.Core.List.{List}
use Prim.Native.Nat.{ℕ, ◌+◌, ◌≤◌, ◌<◌}
use native.Mathlib.Nat.{le_trans}
use native.Mathlib.Omega.{arith}
use lib.ListN.{length}
use Rattle.std.specs.Prelude.{Option, Some, None, MatchOption}
use Rattle.std.specs.Option.{is_some}
use Rattle.refusal.specs.Answer.{Done}
use Rattle.refusal.specs.Table.{passed}
use Rattle.road.specs.Ceilings.{jam_ceiling}
use Rattle.road.specs.Judgement.{Accepted}
use Rattle.road.specs.declared.Road.{Road}
use Rattle.flux.specs.declared.pace.Pace.{Pace}
use Rattle.scheme.specs.Sums.{Below}
use Rattle.scheme.specs.Calls.{Ready, ReadyToRun, Ran, SettledTo}
use Rattle.scheme.specs.declared.many_steps.Totals.{Totals}
use Rattle.scheme.specs.declared.settling.Settled.{Settled}
use Rattle.forecast.specs.declared.accepted.AcceptedInput.{AcceptedInput}
use Rattle.forecast.specs.Answers.{ForecastAnswer}
use Rattle.forecast.specs.Forecast.{input_refusal, InputChecked, increased, total_check, carried_on, Fits, Forecasts}
use Rattle.forecast.specs.Input.{IsInput}
use Rattle.forecast.specs.Settle.{SettleChecked}
use Rattle.forecast.proofs.Checked.{input_passed}
use Rattle.forecast.proofs.Answers.{most, most_fits, forecast_done}

-- densities of an accepted road are within the ceiling of jam
pub in_range : {r : Road} (cells : List ℕ) → Accepted r → Below r.jam cells → Below jam_ceiling cells
in_range cells ok below i = le_trans (below i) ok.jam_high

module _ (r : Road) (p : Pace) (of : p.road.road ≡ r) (caps cells xs : List ℕ) (copied : xs ≡ cells) where
  ready : {up down : ℕ} → length caps ≡ length cells + 1 → 0 < length cells → Below r.jam cells → up ≤ r.jam → down ≤ r.jam → Ready p caps xs up down
  ready caps_long some below up_high down_high = record {
    caps_long = rw copied caps_long;
    some = rw copied some;
    below = rw (of, copied) below;
    up_high = rw of up_high;
    down_high = rw of down_high;
  }

  -- what the run asks, of a checked input
  pub run_asks : (ups downs : List ℕ) (t out : ℕ) → InputChecked r caps cells ups downs t out → ReadyToRun p caps xs ups downs
  run_asks ups downs t out c = record {
    each = λ k. ready c.caps_long c.cells_low c.cells_below (c.ups_below k) (c.downs_below k);
    same = c.downs_long ∙ sym c.ups_long;
    short = let u = c.ups_long in let h = c.horizon_high in omega arith;
  }

  -- what it hands back, of the road and the cells
  pub run_gives : (ups downs : List ℕ) {next : List ℕ} {own : Totals} → Ran p.road.road caps ups downs xs next own → Ran r caps ups downs cells next own
  run_gives ups downs ran = rw (of, copied) at ran

  -- a settling run likewise
  pub settle_asks : (up down t out : ℕ) → SettleChecked r caps cells up down t out → Ready p caps xs up down
  settle_asks up down t out c = ready c.caps_long c.cells_low c.cells_below c.up_below c.down_below

  pub settle_gives : (up down t : ℕ) {next : List ℕ} {d : Settled} → SettledTo p.road.road caps up down t xs next d → SettledTo r caps up down t cells next d
  settle_gives up down t ran = rw (of, copied) at ran

-- a judged input stands for what was judged
module _ {i : AcceptedInput} {r : Road} {caps cells ups downs : List ℕ} {t : ℕ} (is : IsInput i r caps cells ups downs t) where
  pub input_forecasts : {totals : Totals} {out next : List ℕ} {a : ForecastAnswer}
      → Forecasts i.road.road i.caps.now i.cells.now i.upstream.now i.downstream.now i.horizon totals out next a → Forecasts r caps cells ups downs t totals out next a
  input_forecasts made = rw (is.road, is.caps, is.upstream, is.downstream, is.cells, is.horizon) at made

  module _ (out : List ℕ) (nothing : passed ≡ input_refusal r caps cells ups downs t (length out)) where
    ok : InputChecked r caps cells ups downs t (length out)
    ok = input_passed r caps cells ups downs t (length out) nothing

    pub output_long : length out ≡ length i.cells.now
    output_long = rw is.cells ok.output_long

    -- there was room for the most that the steps can move, and so for what they moved
    module _ {next : List ℕ} {own : Totals} (ran : Ran i.road.road i.caps.now i.upstream.now i.downstream.now i.cells.now next own) (totals : Totals) (sums : Option Totals)
        (told : MatchOption sums ((total_check totals (most t)).condition ≡ true) (λ s. Fits totals (most t) × (s ≡ increased totals (most t)))) (some : is_some sums ≡ true) where
      ran_so : Ran r caps ups downs cells next own
      ran_so = rw (is.road, is.caps, is.upstream, is.downstream, is.cells) at ran

      pub sums_fit : Fits totals own
      sums_fit = most_fits r caps cells ups downs t out totals ok ran_so (room sums told some)
        where
          room : (o : Option Totals) → MatchOption o ((total_check totals (most t)).condition ≡ true) (λ s. Fits totals (most t) × (s ≡ increased totals (most t)))
              → is_some o ≡ true → Fits totals (most t)
          room None passes some = absurd (false≢true some)
          room (Some s) (fits, e) some = fits

      pub done_with_room : Forecasts r caps cells ups downs t totals out next (Done (carried_on totals own))
      done_with_room = forecast_done r caps cells ups downs t out totals ok ran_so sums_fit
