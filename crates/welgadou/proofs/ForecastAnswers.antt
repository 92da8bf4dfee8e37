-- From an answer of Level 1 to what its C call returns and writes.
use mathlib.Core.Path.{◌≡◌, ◌∙◌, sym, ap}
use mathlib.Core.List.{List}
use Prim.Native.Nat.{ℕ}
use lib.ListN.{length}
use Rattle.refusal.specs.Table.{refused}
use Rattle.refusal.specs.Answer.{Done, Refused}
use Rattle.road.specs.declared.Road.{Road}
use Rattle.refusal.specs.Outcome.{Outcome}
use Rattle.scheme.specs.declared.many_steps.Totals.{Totals}
use Rattle.scheme.specs.declared.settling.Settled.{Settled}
use Rattle.forecast.specs.declared.forecasting.Record.{Record}
use Rattle.forecast.specs.Answers.{ForecastAnswer}
use Rattle.forecast.specs.Answers.{SettleAnswer}
use Rattle.forecast.specs.Forecast as Forecast
use Rattle.forecast.specs.Forecast.{forecast_answer, forecast_meaning, ForecastJudged}
use Rattle.forecast.specs.Settle as Settle
use Rattle.forecast.specs.Settle.{settle_answer, settle_meaning, SettleJudged}
use Rattle.welgadou.specs.Parts.{flag_of}
use Rattle.welgadou.specs.Level1.{Forecasted, SettledRun}
use Rattle.welgadou.proofs.Answers.{meaning_along, judged_told, refusal_counts, former_when_refused}

module _ {r : Road} {caps cells ups downs : List ℕ} {t : ℕ} {totals : Totals} {out next : List ℕ} {a : ForecastAnswer} (forecasts : Forecast.Forecasts r caps cells ups downs t totals out next a) where
  forecast_told : {b : ForecastAnswer} → a ≡ b → ForecastJudged r caps cells ups downs t totals (length out) (refused (Forecast.meaning b).number (Forecast.meaning b).place)
  forecast_told e =
      judged_told (ForecastJudged r caps cells ups downs t totals (length out)) (λ (x : ForecastAnswer). refused (Forecast.meaning x).number (Forecast.meaning x).place) e forecasts.judged

  pub forecast_done : {d : Record} {entered left : ℕ} → a ≡ Done d → Forecasted r caps cells ups downs t out next entered d.own.entered left d.own.left totals d.totals 0 0
  forecast_done {d} e =
      let m = meaning_along Forecast.meaning e forecasts.means in
      record {
        returned = ap (λ (x : Forecast.Meaning). x.number) m;
        placed = ap (λ (x : Forecast.Meaning). x.place) m;
        output = forecasts.output;
        entered_written = ap (λ (x : Forecast.Meaning). x.entered) m;
        left_written = ap (λ (x : Forecast.Meaning). x.left) m;
        total_entered_written = ap (λ (x : Forecast.Meaning). x.total_entered) m;
        total_left_written = ap (λ (x : Forecast.Meaning). x.total_left) m;
        judged = forecast_told e;
        demand3 = λ z. forecasts.demand3 d e;
        by_faces = λ z. forecasts.by_faces d e;
        carried = λ z. forecasts.carried d e;
      }

  pub forecast_refused : {f : Outcome} {entered left : ℕ} → a ≡ Refused f → Forecasted r caps cells ups downs t out next entered entered left left totals totals f.place f.number
  unfolding forecast_answer forecast_meaning
  forecast_refused {f} e =
      let m = meaning_along Forecast.meaning e forecasts.means in
      let counts : f.number ≡ 0 → ⊥ =
      refusal_counts _ (λ q. cc (sym e ∙ q)) forecasts.answer (ap (λ (x : Forecast.Meaning). x.number) m) in
      record {
        returned = ap (λ (x : Forecast.Meaning). x.number) m;
        placed = ap (λ (x : Forecast.Meaning). x.place) m;
        output = forecasts.output;
        entered_written = former_when_refused counts _ _;
        left_written = former_when_refused counts _ _;
        total_entered_written = former_when_refused counts _ _;
        total_left_written = former_when_refused counts _ _;
        judged = forecast_told e;
        demand3 = λ z. absurd (counts z);
        by_faces = λ z. absurd (counts z);
        carried = λ z. absurd (counts z);
      }

module _ {r : Road} {caps cells : List ℕ} {up down t : ℕ} {out next : List ℕ} {a : SettleAnswer} (settles : Settle.Settles r caps cells up down t out next a) where
  settle_told : {b : SettleAnswer} → a ≡ b → SettleJudged r caps cells up down t (length out) (refused (Settle.meaning b).number (Settle.meaning b).place)
  settle_told e =
      judged_told (SettleJudged r caps cells up down t (length out)) (λ (x : SettleAnswer). refused (Settle.meaning x).number (Settle.meaning x).place) e settles.judged

  pub settle_done : {d : Settled} {settled steps flag : ℕ} → a ≡ Done d → flag ≡ flag_of d.settled → SettledRun r caps cells up down t out next settled flag steps d.steps 0 0
  settle_done {d} e q =
      let m = meaning_along Settle.meaning e settles.means in
      record {
        returned = ap (λ (x : Settle.Meaning). x.number) m;
        placed = ap (λ (x : Settle.Meaning). x.place) m;
        output = settles.output;
        settled_written = q ∙ ap (λ (x : Settle.Meaning). flag_of x.settled) m;
        steps_written = ap (λ (x : Settle.Meaning). x.steps) m;
        judged = settle_told e;
        settlement = λ z. (d.settled, q, settles.settlement d e);
      }

  pub settle_refused : {f : Outcome} {settled steps : ℕ} → a ≡ Refused f → SettledRun r caps cells up down t out next settled settled steps steps f.place f.number
  unfolding settle_answer settle_meaning
  settle_refused {f} e =
      let m = meaning_along Settle.meaning e settles.means in
      let counts : f.number ≡ 0 → ⊥ =
      refusal_counts _ (λ q. cc (sym e ∙ q)) settles.answer (ap (λ (x : Settle.Meaning). x.number) m) in
      record {
        returned = ap (λ (x : Settle.Meaning). x.number) m;
        placed = ap (λ (x : Settle.Meaning). x.place) m;
        output = settles.output;
        settled_written = former_when_refused counts _ _;
        steps_written = former_when_refused counts _ _;
        judged = settle_told e;
        settlement = λ z. absurd (counts z);
      }
