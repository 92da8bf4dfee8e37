-- Which inputs the two tables refuse nothing of, and what a table's first part leaves to know.
use mathlib.Core.Path.{◌≡◌, ◌∙◌, refl, sym, ap, subst}
use mathlib.Core.Bool.{Bool, false}
use mathlib.Core.List.{List, [], ◌∷◌}
use Prim.Native.Nat.{ℕ, zero, suc, ◌≤◌, zero-le}
use lib.ListN.{length, replicate, length-replicate}
use borrow.Author.Tests.{ltb-false, le-ltb}
use Rattle.choice.specs.Choice.{pick}
use Rattle.choice.proofs.Choice.{or_left, or_right, neither}
use Rattle.refusal.specs.Table.{refused, passed, or_if}
use Rattle.road.specs.declared.Road.{Road}
use Rattle.refusal.specs.Outcome.{Outcome}
use Rattle.refusal.proofs.Table.{Passing, ◌&◌, condition_of, none_holds, all_pass, next_check, judge_append}
use Rattle.road.proofs.Acceptance.{accepted_by, road_passes}
use Rattle.refusal.proofs.Parts.{part_stands, part_clear, parts_pass}
use Rattle.refusal.proofs.Calls.{Call, checked}
use Rattle.checks.specs.Places.{Placed}
use Rattle.checks.proofs.First.{all_below, none_above}
use Rattle.checks.proofs.Checks.{cells_low, cells_high, cells_pass, horizon_high, horizon_passes, ups_long, downs_long, ends_pass, output_long, output_passes, caps_long, caps_pass, pair_passes}
use Rattle.checks.proofs.Places.{values_placed}
use Rattle.scheme.specs.Sums.{Below}
use Rattle.scheme.specs.declared.many_steps.Totals.{Totals}
use Rattle.forecast.specs.Forecast.{input_checks, input_refusal, InputChecked, own_of, largest, passes_largest, total_check, total_checks, forecast_checks, forecast_refusal, Fits, Checked}
use Rattle.forecast.specs.Settle.{settle_checks, settle_refusal, SettleChecked}

-- 19 does not hold exactly where both totals fit
module _ (totals own : Totals) where
  pub fits_by : (total_check totals own).condition ≡ false → Fits totals own
  fits_by e = record {
    entered_fits = ltb-false largest _ (or_left (passes_largest totals.entered own.entered) (passes_largest totals.left own.left) e);
    left_fits = ltb-false largest _ (or_right (passes_largest totals.entered own.entered) (passes_largest totals.left own.left) e);
  }

  pub fits_pass : Fits totals own → (total_check totals own).condition ≡ false
  fits_pass f =
      neither (passes_largest totals.entered own.entered) (passes_largest totals.left own.left)
      (le-ltb largest _ f.entered_fits) (le-ltb largest _ f.left_fits)

module _ (r : Road) (caps cells ups downs : List ℕ) (t out : ℕ) where
  -- the checks before 19 hold of nothing exactly where the input is checked
  input_of : ((n : ℕ) → condition_of n (input_checks r caps cells ups downs t out) ≡ false) → InputChecked r caps cells ups downs t out
  input_of none = record {
    accepted = accepted_by r (none 1) (none 2) (none 3) (none 4);
    cells_low = cells_low (length cells) (none 5);
    cells_high = cells_high (length cells) (none 5);
    horizon_high = horizon_high t (none 6);
    ups_long = ups_long t (length ups) (length downs) (none 7);
    downs_long = downs_long t (length ups) (length downs) (none 7);
    output_long = output_long (length cells) out (none 8);
    caps_long = caps_long (length cells) (length caps) (none 20);
    cells_below = all_below r.jam cells (none 9);
    ups_below = all_below r.jam ups (none 10);
    downs_below = all_below r.jam downs (none 11);
  }

  input_passes : InputChecked r caps cells ups downs t out → Passing (input_checks r caps cells ups downs t out)
  input_passes c = road_passes r c.accepted
      (cells_pass (length cells) c.cells_low c.cells_high
      & horizon_passes t c.horizon_high
      & ends_pass t (length ups) (length downs) c.ups_long c.downs_long
      & output_passes (length cells) out c.output_long
      & caps_pass (length cells) (length caps) c.caps_long
      & none_above r.jam cells c.cells_below
      & none_above r.jam ups c.ups_below
      & none_above r.jam downs c.downs_below
      & tt)

  pub input_checked : (input_refusal r caps cells ups downs t out).number ≡ 0 → InputChecked r caps cells ups downs t out
  unfolding input_refusal
  input_checked e = input_of (none_holds (input_checks r caps cells ups downs t out) tt e)

  pub input_passed : passed ≡ input_refusal r caps cells ups downs t out → InputChecked r caps cells ups downs t out
  input_passed e = input_checked (sym (ap (λ (o : Outcome). o.number) e))

  -- checked with one output is checked with another that is as long
  pub with_output : InputChecked r caps cells ups downs t out → (other : ℕ) → other ≡ length cells → InputChecked r caps cells ups downs t other
  with_output c other e = subst (InputChecked r caps cells ups downs t) (c.output_long ∙ sym e) c

  module _ (totals : Totals) where
    -- a refusal by the checks before 19 stands
    pub input_stands : (f : Outcome) → f ≡ input_refusal r caps cells ups downs t out → (f.number ≡ 0 → ⊥) → f ≡ forecast_refusal r caps cells ups downs t totals out
    unfolding input_refusal forecast_refusal
    input_stands = part_stands (input_checks r caps cells ups downs t out) (total_checks r caps cells ups downs totals)

    -- the whole table refuses nothing exactly of a checked input with totals that fit
    pub forecast_call : Call (forecast_checks r caps cells ups downs t totals out) (Checked r caps cells ups downs t totals out) (Placed r cells ups downs) (forecast_refusal r caps cells ups downs t totals out)
    unfolding forecast_refusal
    forecast_call = record {
      comes_to = refl;
      distinct = tt;
      placed = λ at. values_placed r cells ups downs _ (at 9 tt) (at 10 tt) (at 11 tt);
      clear_checked = λ no. record {
        input = input_of (λ n. part_clear (input_checks r caps cells ups downs t out) (total_checks r caps cells ups downs totals) n (no n));
        fits = fits_by totals (own_of r caps cells ups downs) (no 19);
      };
      passes = λ c. parts_pass (input_checks r caps cells ups downs t out) (total_checks r caps cells ups downs totals)
          (input_passes c.input) (fits_pass totals (own_of r caps cells ups downs) c.fits & tt);
    }

    -- where they refuse nothing, 19 decides
    pub total_decides : InputChecked r caps cells ups downs t out → {passes : Bool} → passes ≡ (total_check totals (own_of r caps cells ups downs)).condition
        → forecast_refusal r caps cells ups downs t totals out ≡ pick passes (refused 19 0) passed
    unfolding forecast_refusal or_if
    total_decides c q =
        judge_append passed (input_checks r caps cells ups downs t out) (total_checks r caps cells ups downs totals)
        ∙ next_check 19 (all_pass (input_checks r caps cells ups downs t out) (input_passes c)) (sym q) refl

-- copies of an end are in range where it is
copies_below : {j end : ℕ} (t : ℕ) → end ≤ j → Below j (replicate t end)
copies_below zero h i = zero-le
copies_below (suc t) h zero = h
copies_below (suc t) h (suc i) = copies_below t h i

module _ (r : Road) (caps cells : List ℕ) (up down t out : ℕ) where
  pub settle_call : Call (settle_checks r caps cells up down t out) (SettleChecked r caps cells up down t out) (Placed r cells (up ∷ []) (down ∷ [])) (settle_refusal r caps cells up down t out)
  unfolding settle_refusal
  settle_call = record {
    comes_to = refl;
    distinct = tt;
    placed = λ at. values_placed r cells (up ∷ []) (down ∷ []) _ (at 9 tt) (at 10 tt) (at 11 tt);
    clear_checked = λ no. record {
      accepted = accepted_by r (no 1) (no 2) (no 3) (no 4);
      cells_low = cells_low (length cells) (no 5);
      cells_high = cells_high (length cells) (no 5);
      horizon_high = horizon_high t (no 6);
      output_long = output_long (length cells) out (no 8);
      caps_long = caps_long (length cells) (length caps) (no 20);
      cells_below = all_below r.jam cells (no 9);
      up_below = all_below r.jam (up ∷ []) (no 10) 0;
      down_below = all_below r.jam (down ∷ []) (no 11) 0;
    };
    passes = λ c. road_passes r c.accepted
        (cells_pass (length cells) c.cells_low c.cells_high
        & horizon_passes t c.horizon_high
        & output_passes (length cells) out c.output_long
        & caps_pass (length cells) (length caps) c.caps_long
        & pair_passes r cells up down c.cells_below c.up_below c.down_below tt);
  }

  -- an input that the settling run's checks let through is one that the full forecast's do, up to 19
  pub full_checked : SettleChecked r caps cells up down t out → InputChecked r caps cells (replicate t up) (replicate t down) t (length cells)
  full_checked c = record {
    accepted = c.accepted;
    cells_low = c.cells_low;
    cells_high = c.cells_high;
    horizon_high = c.horizon_high;
    ups_long = length-replicate t up;
    downs_long = length-replicate t down;
    output_long = refl;
    caps_long = c.caps_long;
    cells_below = c.cells_below;
    ups_below = copies_below t c.up_below;
    downs_below = copies_below t c.down_below;
  }

  pub settle_passed : passed ≡ settle_refusal r caps cells up down t out → SettleChecked r caps cells up down t out
  settle_passed e = checked settle_call (sym (ap (λ (o : Outcome). o.number) e))
