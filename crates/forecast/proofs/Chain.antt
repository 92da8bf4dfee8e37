-- Chained: whatever calls are made, accepted or refused, the totals since commissioning account for the units on the road.
use mathlib.Core.Path.{◌≡◌, refl, sym, ◌∙◌, ap}
use mathlib.Core.Bool.{Bool, true, false, true≢false}
use mathlib.Core.List.{List, [], ◌∷◌}
use Prim.Native.Nat.{ℕ, ◌+◌}
use native.Mathlib.Omega.{arith}
use lib.Dec.{eqb}
use lib.ListN.{length}
use borrow.Author.Tests.{eqb-true}
use Rattle.refusal.specs.Outcome.{Outcome}
use Rattle.refusal.proofs.Calls as Calls
use Rattle.scheme.specs.Sums.{sum}
use Rattle.scheme.specs.Rounded.{round_run}
use Rattle.scheme.proofs.Promises.{round_balance}
use Rattle.forecast.specs.Answers.{ForecastAnswer}
use Rattle.refusal.specs.Answer.{Done, Refused}
use Rattle.forecast.specs.Forecast.{own_of, increased, record_of, forecast_refusal, forecast_answer, forecast_cells, meaning, Forecasts}
use Rattle.forecast.specs.Chain.{Call, Site, answer_to, output_of, fed, after_call, after_all, all_entered, all_left, Commissioned, Chained, Unaltered}
use Rattle.forecast.proofs.Checked.{forecast_call}

-- what a call that answered a counts, from the site before it to the one after it
record Counts (s : Site) (a : ForecastAnswer) (after : Site) : Type 0 where
  balanced : sum s.cells + (meaning a).entered ≡ sum after.cells + (meaning a).left
  entered : after.totals.entered ≡ s.totals.entered + (meaning a).entered
  left : after.totals.left ≡ s.totals.left + (meaning a).left

module _ (s : Site) (c : Call) where
  abbrev refusal : Outcome
  refusal = forecast_refusal c.road c.caps s.cells c.ups c.downs c.horizon s.totals (length c.out)

  -- accepted: its record, and a site with its cells and totals
  module _ (yes : eqb refusal.number 0 ≡ true) where
    pub answers : answer_to s c ≡ Done (record_of c.road c.caps s.cells c.ups c.downs s.totals)
    unfolding forecast_answer
    answers = rw yes refl

    pub feeds : after_call s c ≡ record { cells = round_run c.road c.caps c.ups c.downs s.cells; totals = increased s.totals (own_of c.road c.caps s.cells c.ups c.downs) }
    unfolding forecast_answer forecast_cells
    feeds = rw yes refl

    accepted_counts : Counts s (answer_to s c) (after_call s c)
    accepted_counts =
        let checked = Calls.checked (forecast_call c.road c.caps s.cells c.ups c.downs c.horizon (length c.out) s.totals) (eqb-true refusal.number 0 yes) in
        rw (feeds, answers) record {
          balanced = round_balance c.road c.caps checked.input.accepted c.ups c.downs s.cells;
          entered = refl;
          left = refl;
        }

  -- refused: the site as it was, and so the output
  module _ (no : eqb refusal.number 0 ≡ false) where
    pub refuses : answer_to s c ≡ Refused refusal
    unfolding forecast_answer
    refuses = rw no refl

    keeps_output : output_of s c ≡ c.out
    unfolding forecast_cells
    keeps_output = rw no refl

    refused_counts : Counts s (answer_to s c) (after_call s c)
    refused_counts = rw refuses record { balanced = refl; entered = omega arith; left = omega arith }

  counts : Counts s (answer_to s c) (after_call s c)
  counts = by (eqb refusal.number 0) refl
    where
      by : (b : Bool) → eqb refusal.number 0 ≡ b → Counts s (answer_to s c) (after_call s c)
      by true e = accepted_counts e
      by false e = refused_counts e

  -- a call made: what its contract says it answered and left in its output feeds the site
  pub made_feeds : {next : List ℕ} {a : ForecastAnswer} → Forecasts c.road c.caps s.cells c.ups c.downs c.horizon s.totals c.out next a → fed s next a ≡ after_call s c
  made_feeds made = λ i. fed s (made.output i) (made.answer i)

  -- "A refused call in the chain alters neither"
  pub refused_alters_nothing : {f : Outcome} → answer_to s c ≡ Refused f → Unaltered s c
  refused_alters_nothing q = record { site = ap (fed s (output_of s c)) q; output = by (eqb refusal.number 0) refl }
    where
      by : (b : Bool) → eqb refusal.number 0 ≡ b → output_of s c ≡ c.out
      by true e = absurd (true≢false (cc (sym (answers e) ∙ q)))
      by false e = keeps_output e

-- of any totals at first
record CountsAll (s : Site) (calls : List Call) : Type 0 where
  balanced : sum s.cells + all_entered s calls ≡ sum (after_all s calls).cells + all_left s calls
  entered : (after_all s calls).totals.entered ≡ s.totals.entered + all_entered s calls
  left : (after_all s calls).totals.left ≡ s.totals.left + all_left s calls

counts_all : (s : Site) (calls : List Call) → CountsAll s calls
unfolding after_all all_entered all_left
counts_all s [] = record { balanced = refl; entered = omega arith; left = omega arith }
counts_all s (c ∷ cs) =
    let one = counts s c in
    let rest = counts_all (after_call s c) cs in
    record {
      balanced = omega (arith, one.balanced, rest.balanced);
      entered = omega (arith, one.entered, rest.entered);
      left = omega (arith, one.left, rest.left);
    }

-- for every list of calls, refused ones among them, each with any road and lists
pub chained : (s : Site) → Commissioned s → (calls : List Call) → Chained s calls
chained s (e, l) calls =
    let all = counts_all s calls in
    record {
      balanced = omega (arith, e, l, all.balanced, all.entered, all.left);
      entered_total = omega (arith, e, all.entered);
      left_total = omega (arith, l, all.left);
    }
