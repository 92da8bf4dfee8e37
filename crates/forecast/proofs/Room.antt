-- There is room for the totals: a step moves at most 1,000,000 units over a face, so that 19 never comes within the lifetime, whatever roads and cells the calls have.
use mathlib.Core.Path.{◌≡◌, ◌∙◌, refl, sym, ap}
use mathlib.Core.Bool.{Bool, true, false, false≢true}
use mathlib.Core.List.{List, [], ◌∷◌}
use Prim.Native.Nat.{ℕ, ◌+◌, ◌*◌, ◌≤◌, zero-le, suc-le-suc}
use native.Mathlib.Decide.{ℕ_discrete}
use native.Mathlib.Omega.{arith}
use lib.Dec.{eqb}
use lib.ListN.{length}
use borrow.Author.Tests.{eqb-true}
use Rattle.refusal.specs.Outcome.{Outcome}
use Rattle.refusal.proofs.Table.{check_returned}
use Rattle.refusal.proofs.Calls as Calls
use Rattle.road.specs.Ceilings.{jam_ceiling}
use Rattle.scheme.specs.Rounded.{entered, left}
use Rattle.scheme.specs.declared.many_steps.Totals.{Totals}
use Rattle.scheme.proofs.Promises.{round_small}
use Rattle.forecast.specs.Answers.{ForecastAnswer}
use Rattle.forecast.specs.Forecast.{input_checks, input_refusal, forecast_refusal, meaning, InputChecked, Checked}
use Rattle.forecast.specs.Chain.{Call, Site, answer_to, output_of, fed}
use Rattle.forecast.specs.ForEver.{lifetime}
use Rattle.forecast.specs.Room.{Measured, made_at, totals_after, carried_by, steps_of, steps_made, from_none, RoomLeft}
use Rattle.forecast.proofs.Checked.{input_checked, input_stands, forecast_call}
use Rattle.forecast.proofs.Chain.{answers, feeds, refuses}

-- both totals are small after so many steps
record Few (steps : ℕ) (t : Totals) : Type 0 where
  entered : t.entered ≤ steps * jam_ceiling
  left : t.left ≤ steps * jam_ceiling

-- a call and the totals before it
module _ (totals : Totals) (m : Measured) where
  abbrev c : Call
  c = m.call

  abbrev refusal : Outcome
  refusal = forecast_refusal c.road c.caps m.cells c.ups c.downs c.horizon totals (length c.out)

  -- no step moves more than the ceiling of jam over a face
  own_few : InputChecked c.road c.caps m.cells c.ups c.downs c.horizon (length c.out)
      → (entered c.road c.caps c.ups c.downs m.cells ≤ c.horizon * jam_ceiling) × (left c.road c.caps c.ups c.downs m.cells ≤ c.horizon * jam_ceiling)
  own_few i = rw i.ups_long at (round_small c.road c.caps i.accepted c.ups c.downs m.cells i.ups_below i.cells_below)

  -- 19 comes only of an input that all other checks let through
  others_pass : refusal.number ≡ 19 → InputChecked c.road c.caps m.cells c.ups c.downs c.horizon (length c.out)
  unfolding input_refusal
  others_pass e = by (ℕ_discrete before.number 0)
    where
      before : Outcome
      before = input_refusal c.road c.caps m.cells c.ups c.downs c.horizon (length c.out)

      by : Dec (before.number ≡ 0) → InputChecked c.road c.caps m.cells c.ups c.downs c.horizon (length c.out)
      by (yes z) = input_checked c.road c.caps m.cells c.ups c.downs c.horizon (length c.out) z
      by (no n) =
          let same = input_stands c.road c.caps m.cells c.ups c.downs c.horizon (length c.out) totals before refl n in
          let held = check_returned (input_checks c.road c.caps m.cells c.ups c.downs c.horizon (length c.out)) tt 19 (suc-le-suc zero-le)
          (ap (λ (f : Outcome). f.number) same ∙ e) in
          absurd (false≢true held.0)

  call_few : (k : ℕ) → Few k totals → Few (k + steps_of (answer_to (made_at totals m) c) c.horizon) (totals_after totals m)
  call_few k few = by (eqb refusal.number 0) refl
    where
      by : (b : Bool) → eqb refusal.number 0 ≡ b → Few (k + steps_of (answer_to (made_at totals m) c) c.horizon) (totals_after totals m)
      by true accepted =
          let call = forecast_call c.road c.caps m.cells c.ups c.downs c.horizon (length c.out) totals in
          let (ins, outs) = own_few (Calls.checked call (eqb-true refusal.number 0 accepted)).input in
          let after = feeds (made_at totals m) c accepted in
          let steps : steps_of (answer_to (made_at totals m) c) c.horizon ≡ c.horizon = ap (λ (a : ForecastAnswer). steps_of a c.horizon) (answers (made_at totals m) c accepted) in
          record {
            entered = omega (arith, few.entered, ins, steps, ap (λ (s : Site). s.totals.entered) after);
            left = omega (arith, few.left, outs, steps, ap (λ (s : Site). s.totals.left) after);
          }
      by false refused =
          let same = refuses (made_at totals m) c refused in
          let after : totals_after totals m ≡ totals = ap (λ (a : ForecastAnswer). (fed (made_at totals m) (output_of (made_at totals m) c) a).totals) same in
          let steps : steps_of (answer_to (made_at totals m) c) c.horizon ≡ 0 = ap (λ (a : ForecastAnswer). steps_of a c.horizon) same in
          record {
            entered = omega (arith, few.entered, steps, ap (λ (t : Totals). t.entered) after);
            left = omega (arith, few.left, steps, ap (λ (t : Totals). t.left) after);
          }

  -- within the lifetime the totals fit
  fits_surely : (k : ℕ) → Few k totals → k + c.horizon ≤ lifetime → refusal.number ≡ 19 → ⊥
  fits_surely k few within e =
      let input = others_pass e in
      let (ins, outs) = own_few input in
      let checked : Checked c.road c.caps m.cells c.ups c.downs c.horizon totals (length c.out) = record {
        input = input;
        fits = record { entered_fits = omega (arith, within, few.entered, ins); left_fits = omega (arith, within, few.left, outs) };
      } in
      let none = eqb-true refusal.number 0 (Calls.accepts_checked (forecast_call c.road c.caps m.cells c.ups c.downs c.horizon (length c.out) totals) checked) in
      absurd (omega arith)

all_few : (k : ℕ) (totals : Totals) (ms : List Measured) → Few k totals → Few (k + steps_made totals ms) (carried_by totals ms)
unfolding carried_by steps_made
all_few k totals [] few = record { entered = omega (arith, few.entered); left = omega (arith, few.left) }
all_few k totals (m ∷ ms) few =
    let rest = all_few (k + steps_of (answer_to (made_at totals m) m.call) m.call.horizon) (totals_after totals m) ms (call_few totals m k few) in
    record { entered = omega (arith, rest.entered); left = omega (arith, rest.left) }

pub room_left : (before : List Measured) (m : Measured) → RoomLeft before m
room_left before m within e =
    let few = all_few 0 from_none before record { entered = omega arith; left = omega arith } in
    fits_surely (carried_by from_none before) m (steps_made from_none before)
    record { entered = omega (arith, few.entered); left = omega (arith, few.left) } within (by (eqb f.number 0) refl)
  where
    f : Outcome
    f = refusal (carried_by from_none before) m

    by : (b : Bool) → eqb f.number 0 ≡ b → f.number ≡ 19
    by true accepted =
        let none : (meaning (answer_to (made_at (carried_by from_none before) m) m.call)).number ≡ 0 =
        ap (λ (a : ForecastAnswer). (meaning a).number) (answers (made_at (carried_by from_none before) m) m.call accepted) in
        absurd (omega arith)
    by false refused = sym (ap (λ (a : ForecastAnswer). (meaning a).number) (refuses (made_at (carried_by from_none before) m) m.call refused)) ∙ e
