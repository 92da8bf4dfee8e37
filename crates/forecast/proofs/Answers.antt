-- The answers and outputs, accepted and refused, and demand 3 from the equations.
use mathlib.Core.Path.{◌≡◌, ◌∙◌, refl, sym, ap, subst}
use mathlib.Core.Bool.{Bool, true, true≢false}
use mathlib.Core.List.{List}
use Prim.Native.Nat.{ℕ, ◌+◌, ◌*◌}
use native.Mathlib.Omega.{arith}
use lib.ListN.{length, replicate}
use Rattle.choice.specs.Choice.{pick}
use Rattle.refusal.specs.Table.{refused, passed}
use Rattle.road.specs.Ceilings.{jam_ceiling}
use Rattle.road.specs.declared.Road.{Road}
use Rattle.std.specs.Prelude.{Result, IsErrAnd}
use Rattle.std.proofs.lemmas.Result.{err_from_is_err_and}
use Rattle.refusal.specs.Outcome.{Outcome}
use Rattle.refusal.specs.declared.Refusal.{Refusal}
use Rattle.refusal.proofs.Results.{numbered}
use Rattle.refusal.proofs.Calls.{refuses, accepts}
use Rattle.scheme.specs.Sums.{Below}
use Rattle.scheme.specs.Settling.{after, settles, settle_steps, settle_cells}
use Rattle.scheme.specs.ByFaces.{RunByFaces}
use Rattle.scheme.specs.Calls.{Ran, SettledTo}
use Rattle.scheme.specs.declared.many_steps.Totals.{Totals}
use Rattle.scheme.specs.declared.settling.Settled.{Settled}
use Rattle.scheme.proofs.Promises.{round_run_length, exact_run_length, round_range, round_balance, round_small, round_near, settle_range, settle_length}
use Rattle.scheme.proofs.Settlement.{least_still, full_run}
use Rattle.scheme.proofs.ByFaces.{run_by_faces, after_by_faces, exact_run_by_faces}
use Rattle.forecast.specs.declared.forecasting.Record.{Record}
use Rattle.forecast.specs.Answers.{ForecastAnswer, SettleAnswer}
use Rattle.refusal.specs.Answer.{Done, Refused, number_of, outcome_of, answer_of}
use Rattle.forecast.specs.Forecast.{input_refusal, InputChecked, own_of, increased, carried_on, total_check, Fits, forecast_refusal, forecast_answer, forecast_cells, forecast_meaning, meaning, Demand3, Forecasts}
use Rattle.forecast.specs.Settle.{settle_refusal, SettleChecked, settle_answer, settle_output, settle_meaning, meaning as settled_meaning, from_zero, Settlement, Settles}
use Rattle.forecast.proofs.Checked.{fits_pass, input_stands, forecast_call, total_decides, settle_call, full_checked}

-- what an accepted forecast carries is what its answer says
same_record : {d e : Record} → ◌≡◌ {A = ForecastAnswer} (Done d) (Done e) → d ≡ e
same_record q = cc

-- the most that t steps can move over two faces
abbrev pub most : ℕ → Totals
most t = record { entered = t * jam_ceiling; left = t * jam_ceiling }

module _ (r : Road) (caps cells ups downs : List ℕ) (t : ℕ) (out : List ℕ) where
  -- demand 3, of every run that the checks let through
  demand3 : InputChecked r caps cells ups downs t (length out) → (next : List ℕ) (own : Totals) → Ran r caps ups downs cells next own → Demand3 r caps cells ups downs t next own.entered own.left
  demand3 c next own ran =
      let ok = c.accepted in
      record {
        ups_long = c.ups_long;
        downs_long = c.downs_long;
        after_steps = ran.cells;
        long = ap length ran.cells ∙ round_run_length r caps ups downs cells;
        exact_long = exact_run_length r caps 1 ups downs cells;
        exact_steps = exact_run_by_faces r caps ok 1 ups downs cells (c.ups_long ∙ sym c.downs_long);
        within = rw ran.cells (round_range r caps ok ups downs cells c.cells_below);
        balanced = rw (ran.cells, ran.entered, ran.left) (round_balance r caps ok ups downs cells);
        near = rw (ran.cells, ← c.ups_long) (round_near r caps ok ups downs cells (c.ups_long ∙ sym c.downs_long));
      }

  -- in range
  pub within_jam : InputChecked r caps cells ups downs t (length out) → (next : List ℕ) (own : Totals) → Ran r caps ups downs cells next own → Below r.jam next
  within_jam c next own ran = rw ran.cells (round_range r caps c.accepted ups downs cells c.cells_below)

  -- and demand 2 of it
  by_faces : InputChecked r caps cells ups downs t (length out) → (next : List ℕ) (own : Totals) → Ran r caps ups downs cells next own → RunByFaces r caps ups downs cells next own.entered own.left
  by_faces c next own ran =
      rw (ran.cells, ran.entered, ran.left) (run_by_faces r caps c.accepted ups downs cells (c.ups_long ∙ sym c.downs_long))

  module _ (totals : Totals) where
    -- refused: the number and place of the table, and the former contents
    pub forecast_refused : (f : Outcome) → f ≡ forecast_refusal r caps cells ups downs t totals (length out) → (f.number ≡ 0 → ⊥) → Forecasts r caps cells ups downs t totals out out (Refused f)
    unfolding forecast_answer forecast_cells forecast_meaning
    forecast_refused f e n =
        let k = refuses (forecast_call r caps cells ups downs t (length out) totals) e n in
        record {
          answer = rw k.no (ap Refused e);
          means = rw k.no (ap (λ (g : Outcome). meaning (Refused g)) e);
          output = rw k.no refl;
          judged = k.judged;
          demand3 = λ d q. absurd (true≢false (cc q));
          by_faces = λ d q. absurd (true≢false (cc q));
          carried = λ d q. absurd (true≢false (cc q));
        }

    -- what is returned at a `?`: the refusal of the checks before 19
    pub forecast_err : (f : Refusal) (a : Result Record Refusal) → IsErrAnd a (λ g. g ≡ f) → outcome_of f ≡ input_refusal r caps cells ups downs t (length out)
        → Forecasts r caps cells ups downs t totals out out (answer_of a)
    forecast_err f a is_err e =
        let p = err_from_is_err_and a is_err in
        let n : number_of f ≡ 0 → ⊥ = λ z. absurd (omega (arith, numbered f)) in
        rw (p.1, p.2) (forecast_refused (outcome_of f) (input_stands r caps cells ups downs t (length out) totals (outcome_of f) e n) n)

    module _ (c : InputChecked r caps cells ups downs t (length out)) {next : List ℕ} {own : Totals} (ran : Ran r caps ups downs cells next own) where
      sums : own ≡ own_of r caps cells ups downs
      sums i = record { entered = ran.entered i; left = ran.left i }

      -- once the run is made 19 decides, of its own sums
      decided : {passes : Bool} → passes ≡ (total_check totals own).condition → forecast_refusal r caps cells ups downs t totals (length out) ≡ pick passes (refused 19 0) passed
      decided q = total_decides r caps cells ups downs t (length out) totals c (q ∙ ap (λ (o : Totals). (total_check totals o).condition) sums)

      pub total_refused : (total_check totals own).condition ≡ true → Forecasts r caps cells ups downs t totals out out (Refused (refused 19 0))
      total_refused holds = forecast_refused (refused 19 0) (rw holds at (sym (decided refl))) (λ z. absurd (omega arith))

      -- accepted: the run's sums and cells, and the totals with the sums in them
      pub forecast_done : Fits totals own → Forecasts r caps cells ups downs t totals out next (Done (carried_on totals own))
      unfolding forecast_answer forecast_cells forecast_meaning
      forecast_done f =
          let k = accepts (forecast_call r caps cells ups downs t (length out) totals) (ap (λ (f : Outcome). f.number) (decided (sym (fits_pass totals own f)))) in
          record {
            answer = rw k.yes (ap (λ (o : Totals). Done (carried_on totals o)) sums);
            means = rw k.yes (λ i. record {
              number = (sym k.nothing i).number;
              place = (sym k.nothing i).place;
              entered = ran.entered i;
              left = ran.left i;
              total_entered = totals.entered + ran.entered i;
              total_left = totals.left + ran.left i;
            });
            output = rw k.yes ran.cells;
            judged = k.judged;
            demand3 = λ d q. subst (λ (x : Record). Demand3 r caps cells ups downs t next x.own.entered x.own.left) (same_record q) (demand3 c next own ran);
            by_faces = λ d q. subst (λ (x : Record). RunByFaces r caps ups downs cells next x.own.entered x.own.left) (same_record q) (by_faces c next own ran);
            carried = λ d q. subst (λ (x : Record). x.totals ≡ increased totals x.own) (same_record q) refl;
          }

      -- neither sum is more than jam's ceiling for each step: where so much fits, the sums do
      pub most_fits : Fits totals (most t) → Fits totals own
      most_fits f =
          let small = rw c.ups_long at (round_small r caps c.accepted ups downs cells c.ups_below c.cells_below) in
          record {
            entered_fits = omega (arith, f.entered_fits, small.0, ran.entered);
            left_fits = omega (arith, f.left_fits, small.1, ran.left);
          }

same_settled : {d e : Settled} → ◌≡◌ {A = SettleAnswer} (Done d) (Done e) → d ≡ e
same_settled q = cc

-- the settling run, refused and accepted
module _ (r : Road) (caps cells : List ℕ) (up down t : ℕ) (out : List ℕ) where
  -- the full forecast, which leaves the same cells: what one call moves fits into totals of 0
  full : SettleChecked r caps cells up down t (length out) → (next : List ℕ) → next ≡ settle_cells r caps up down t cells
      → (own : Totals) × Forecasts r caps cells (replicate t up) (replicate t down) t (from_zero cells).totals cells next (Done (carried_on (from_zero cells).totals own))
  full c next e =
      let ups = replicate t up in
      let downs = replicate t down in
      let input = full_checked r caps cells up down t (length out) c in
      let ran : Ran r caps ups downs cells next (own_of r caps cells ups downs) = record { cells = e ∙ full_run r caps up down t cells; entered = refl; left = refl } in
      let fits = most_fits r caps cells ups downs t cells (from_zero cells).totals input ran (record { entered_fits = omega (arith, c.horizon_high); left_fits = omega (arith, c.horizon_high) }) in
      (_, forecast_done r caps cells ups downs t cells (from_zero cells).totals input ran fits)

  settlement : SettleChecked r caps cells up down t (length out) → (next : List ℕ) (d : Settled) → SettledTo r caps up down t cells next d → Settlement r caps cells up down t next d
  unfolding settle_cells
  settlement c next d ran =
      let reached : next ≡ after r caps up down d.steps cells = ran.cells ∙ ap (λ (k : ℕ). after r caps up down k cells) (sym ran.steps) in
      let forecast = (full c next ran.cells).1 in
      record {
        least = rw (ran.settled, ran.steps) (least_still r caps up down t cells);
        state = reached;
        by_faces = rw reached (after_by_faces r caps c.accepted up down d.steps cells);
        long = ap length ran.cells ∙ settle_length r caps up down t cells;
        within = rw ran.cells (settle_range r caps c.accepted up down t cells c.cells_below);
        full = forecast.output;
        full_done = (_, sym forecast.answer);
      }

  pub settle_refused : (f : Outcome) → f ≡ settle_refusal r caps cells up down t (length out) → (f.number ≡ 0 → ⊥) → Settles r caps cells up down t out out (Refused f)
  unfolding settle_answer settle_output settle_meaning
  settle_refused f e n =
      let k = refuses (settle_call r caps cells up down t (length out)) e n in
      record {
        answer = rw k.no (ap Refused e);
        means = rw k.no (ap (λ (g : Outcome). settled_meaning (Refused g)) e);
        output = rw k.no refl;
        judged = k.judged;
        settlement = λ d q. absurd (true≢false (cc q));
      }

  pub settle_err : (f : Refusal) (a : Result Settled Refusal) → IsErrAnd a (λ g. g ≡ f) → outcome_of f ≡ settle_refusal r caps cells up down t (length out)
      → Settles r caps cells up down t out out (answer_of a)
  settle_err f a is_err e =
      let p = err_from_is_err_and a is_err in
      rw (p.1, p.2) (settle_refused (outcome_of f) e (λ z. absurd (omega (arith, numbered f))))

  pub settle_done : passed ≡ settle_refusal r caps cells up down t (length out) → (next : List ℕ) (d : Settled) → SettledTo r caps up down t cells next d → Settles r caps cells up down t out next (Done d)
  unfolding settle_answer settle_output settle_meaning
  settle_done e next d ran =
      let k = accepts (settle_call r caps cells up down t (length out)) (sym (ap (λ (o : Outcome). o.number) e)) in
      let made : d ≡ record { settled = settles r caps up down t cells; steps = settle_steps r caps up down t cells } = λ i. record { settled = ran.settled i; steps = ran.steps i } in
      record {
        answer = rw k.yes (ap Done made);
        means = rw k.yes (λ i. record { number = (sym k.nothing i).number; place = (sym k.nothing i).place; settled = ran.settled i; steps = ran.steps i });
        output = rw k.yes ran.cells;
        judged = k.judged;
        settlement = λ s q. rw (same_settled q) at (settlement k.checked next d ran);
      }
