-- For ever: every chain of calls that pass their checks is Done throughout, in range, and balanced from first to last, as long as the totals surely have room.
use mathlib.Core.Path.{◌≡◌, ◌∙◌, refl, sym, ap, subst}
use mathlib.Core.Bool.{true}
use mathlib.Core.List.{List, [], ◌∷◌}
use Prim.Native.Nat.{ℕ, ◌+◌, ◌*◌, ◌≤◌}
use native.Mathlib.Omega.{arith}
use lib.Dec.{eqb}
use lib.ListN.{length}
use Rattle.road.specs.Ceilings.{cells_ceiling, jam_ceiling}
use Rattle.road.specs.Judgement.{Accepted}
use Rattle.road.specs.declared.Road.{Road}
use Rattle.refusal.proofs.Calls.{accepts_checked}
use Rattle.scheme.specs.Sums.{sum, Below}
use Rattle.scheme.specs.Rounded.{entered, left}
use Rattle.scheme.specs.Settling.{settles, settle_steps, settle_cells}
use Rattle.scheme.proofs.Promises.{round_run_length, round_range, round_balance, round_small, settle_range, settle_length, after_balance}
use Rattle.forecast.specs.Answers.{SettleAnswer}
use Rattle.refusal.specs.Answer.{Done}
use Rattle.forecast.specs.Forecast.{forecast_refusal, Checked}
use Rattle.forecast.specs.Settle.{settle_refusal, settle_answer, settle_output, meaning as settle_meaning, SettleChecked, Settles}
use Rattle.forecast.specs.Chain.{Call, Site, Commissioned}
use Rattle.forecast.specs.ForEver.{SettleCall, AnyCall, forecast, settle, ForecastPasses, SettlePasses, Passes, AllPass, forecast_steps, lifetime, settle_answer_to, IsDone, settled, site_after, steps_reported, entered_in, left_in, last_cells, entered_in_all, left_in_all, ForEver}
use Rattle.forecast.proofs.Checked.{forecast_call, settle_call}
use Rattle.forecast.proofs.Chain.{answers, feeds}

-- the state of the chain: cells that every call accepts
record Feeds (r : Road) (n : ℕ) (s : Site) : Type 0 where
  accepted : Accepted r
  long : length s.cells ≡ n
  low : 1 ≤ n
  high : n ≤ cells_ceiling
  below : Below r.jam s.cells

-- both totals are small after so many steps of forecasts
record Small (steps : ℕ) (s : Site) : Type 0 where
  entered : s.totals.entered ≤ steps * jam_ceiling
  left : s.totals.left ≤ steps * jam_ceiling

-- a settling run made: what its contract says it answered and left in its output feeds the site
pub settle_feeds : (r : Road) (s : Site) (c : SettleCall) {next : List ℕ} {a : SettleAnswer}
    → Settles r c.caps s.cells c.up c.down c.horizon c.out next a → settled s next a ≡ site_after r s (settle c)
settle_feeds r s c made = λ i. settled s (made.output i) (made.answer i)

-- what a call of the chain keeps, from the site before it to the one after it, with what entered and left
record Keeps (r : Road) (n steps : ℕ) (s after : Site) (ins outs : ℕ) : Type 0 where
  feeds : Feeds r n after
  small : Small steps after
  balanced : sum s.cells + ins ≡ sum after.cells + outs

abbrev Made : Road → ℕ → ℕ → Site → AnyCall → Type 0
Made r n steps s c = IsDone r s c × Keeps r n (steps + forecast_steps (c ∷ [])) s (site_after r s c) (entered_in r s c) (left_in r s c)

-- a forecast that passes its checks, within the lifetime
module _ (n steps : ℕ) (s : Site) (c : Call) (f : Feeds c.road n s) (small : Small steps s) (p : ForecastPasses c.road n c)
    (within : steps + c.horizon ≤ lifetime) where
  moved : (entered c.road c.caps c.ups c.downs s.cells ≤ c.horizon * jam_ceiling) × (left c.road c.caps c.ups c.downs s.cells ≤ c.horizon * jam_ceiling)
  moved = rw p.ups_long at (round_small c.road c.caps f.accepted c.ups c.downs s.cells p.ups_below f.below)

  checked : Checked c.road c.caps s.cells c.ups c.downs c.horizon s.totals (length c.out)
  checked = record {
    input = record {
      accepted = f.accepted;
      cells_low = rw f.long f.low;
      cells_high = rw f.long f.high;
      horizon_high = p.horizon_high;
      ups_long = p.ups_long;
      downs_long = p.downs_long;
      output_long = p.output_long ∙ sym f.long;
      caps_long = rw f.long p.caps_long;
      cells_below = f.below;
      ups_below = p.ups_below;
      downs_below = p.downs_below;
    };
    fits = record {
      entered_fits = omega (arith, within, moved.0, small.entered);
      left_fits = omega (arith, within, moved.1, small.left);
    };
  }

  accepts : eqb (forecast_refusal c.road c.caps s.cells c.ups c.downs c.horizon s.totals (length c.out)).number 0 ≡ true
  accepts = accepts_checked (forecast_call c.road c.caps s.cells c.ups c.downs c.horizon (length c.out) s.totals) checked

  forecast_made : Made c.road n steps s (forecast c)
  forecast_made = (
    (_, answers s c accepts),
    rw (feeds s c accepts, answers s c accepts, entered_in, left_in) record {
      feeds = record {
        accepted = f.accepted;
        long = round_run_length c.road c.caps c.ups c.downs s.cells ∙ f.long;
        low = f.low;
        high = f.high;
        below = round_range c.road c.caps f.accepted c.ups c.downs s.cells f.below;
      };
      small = record {
        entered = omega (arith, moved.0, small.entered);
        left = omega (arith, moved.1, small.left);
      };
      balanced = round_balance c.road c.caps f.accepted c.ups c.downs s.cells;
    },
  )

-- a settling run likewise, which leaves the totals alone
module _ (r : Road) (n steps : ℕ) (s : Site) (c : SettleCall) (f : Feeds r n s) (small : Small steps s) (p : SettlePasses r n c) where
  settle_checked : SettleChecked r c.caps s.cells c.up c.down c.horizon (length c.out)
  settle_checked = record {
    accepted = f.accepted;
    cells_low = rw f.long f.low;
    cells_high = rw f.long f.high;
    horizon_high = p.horizon_high;
    output_long = p.output_long ∙ sym f.long;
    caps_long = rw f.long p.caps_long;
    cells_below = f.below;
    up_below = p.up_below;
    down_below = p.down_below;
  }

  settle_accepts : eqb (settle_refusal r c.caps s.cells c.up c.down c.horizon (length c.out)).number 0 ≡ true
  settle_accepts = accepts_checked (settle_call r c.caps s.cells c.up c.down c.horizon (length c.out)) settle_checked

  settle_answers : settle_answer_to r s c ≡ Done (record { settled = settles r c.caps c.up c.down c.horizon s.cells; steps = settle_steps r c.caps c.up c.down c.horizon s.cells })
  unfolding settle_answer
  settle_answers = rw settle_accepts refl

  reports : steps_reported r s c ≡ settle_steps r c.caps c.up c.down c.horizon s.cells
  reports = ap (λ (a : SettleAnswer). (settle_meaning a).steps) settle_answers

  settle_leaves : site_after r s (settle c) ≡ record { cells = settle_cells r c.caps c.up c.down c.horizon s.cells; totals = s.totals }
  unfolding settle_answer settle_output
  settle_leaves = rw settle_accepts refl

  settle_made : Made r n steps s (settle c)
  unfolding settle_cells
  settle_made = (
    (_, settle_answers),
    rw (settle_leaves, reports) record {
      feeds = record {
        accepted = f.accepted;
        long = settle_length r c.caps c.up c.down c.horizon s.cells ∙ f.long;
        low = f.low;
        high = f.high;
        below = settle_range r c.caps f.accepted c.up c.down c.horizon s.cells f.below;
      };
      small = record { entered = omega (arith, small.entered); left = omega (arith, small.left) };
      balanced = after_balance r c.caps f.accepted c.up c.down (settle_steps r c.caps c.up c.down c.horizon s.cells) s.cells;
    },
  )

call_made : (r : Road) (n steps : ℕ) (s : Site) (c : AnyCall) → Feeds r n s → Small steps s → Passes r n c → steps + forecast_steps (c ∷ []) ≤ lifetime → Made r n steps s c
call_made r n steps s (forecast c) f small p within =
    subst (λ (q : Road). Feeds q n s → ForecastPasses q n c → Made q n steps s (forecast c)) p.same_road
    (λ f p. forecast_made n steps s c f small p (omega (arith, within))) f p
call_made r n steps s (settle c) f small p within = settle_made r n steps s c f small p

-- a call's own steps and those of the rest
steps_of : (c : AnyCall) (cs : List AnyCall) → forecast_steps (c ∷ cs) ≡ forecast_steps (c ∷ []) + forecast_steps cs
steps_of (forecast c) cs = omega arith
steps_of (settle c) cs = omega arith

chain : (r : Road) (n steps : ℕ) (s : Site) (calls : List AnyCall) → Feeds r n s → Small steps s → AllPass r n calls → steps + forecast_steps calls ≤ lifetime → ForEver r s calls
unfolding last_cells entered_in_all left_in_all
chain r n steps s [] f small ps within = record { done = tt; within = tt; balanced = refl }
chain r n steps s (c ∷ cs) f small (p, ps) within =
    let split = steps_of c cs in
    let (is-done, one) = call_made r n steps s c f small p (omega arith) in
    let rest = chain r n (steps + forecast_steps (c ∷ [])) (site_after r s c) cs one.feeds one.small ps (omega arith) in
    record {
      done = (is-done, rest.done);
      within = (one.feeds.long ∙ sym f.long, one.feeds.below, rest.within);
      balanced = let now = one.balanced in let then = rest.balanced in omega arith;
    }

-- for every list of calls on one accepted road that pass their checks, each fed the last one's cells and each forecast the last forecast's totals, both 0 at first,
-- as long as the forecasts have no more steps together than the totals have room for
pub for_ever : (r : Road) → Accepted r → (s : Site) → Commissioned s → 1 ≤ length s.cells → length s.cells ≤ cells_ceiling → Below r.jam s.cells
    → (calls : List AnyCall) → AllPass r (length s.cells) calls → forecast_steps calls ≤ lifetime → ForEver r s calls
for_ever r ok s (none-entered, none_left) low high below calls ps within =
    chain r (length s.cells) 0 s calls (record { accepted = ok; long = refl; low = low; high = high; below = below })
    (record { entered = omega (arith, none-entered); left = omega (arith, none_left) }) ps (omega (arith, within))
