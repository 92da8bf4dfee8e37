-- What demand 1 says of a call, and what each call tells it from: what is chosen by a call's number, and its places.
use mathlib.Core.Path.{◌≡◌, ◌∙◌, refl}
use mathlib.Core.Bool.{Bool, true, false}
use mathlib.Core.Logic.{◌⊎◌}
use mathlib.Core.List.{List, [], ◌∷◌, map}
use Prim.Native.Nat.{ℕ}
use native.Mathlib.Omega.{arith}
use lib.Dec.{T, eqb}
use lib.ListN.{length}
use borrow.Author.Tests.{eq-eqb, ne_eqb}
use Rattle.choice.specs.Choice.{pick}
use Rattle.refusal.specs.Table.{Check, judge, rising, Judged}
use Rattle.refusal.specs.Outcome.{Outcome as Refusal}
use Rattle.refusal.proofs.Table.{◌&◌}
use Rattle.road.specs.Judgement.{divisor_check, speeds_check, densities_check, balance_check}
use Rattle.road.specs.declared.Road.{Road}
use Rattle.checks.specs.Checks.{outputs_check}
use Rattle.checks.specs.Places.{Placed}
use Rattle.checks.specs.State.{state_checks}
use Rattle.words.specs.Places.{PairWordPlaced}
use Rattle.welgadou.specs.Parts.{flag_of}
use Rattle.commission.specs.Outcome.{Outcome}
use Rattle.commission.specs.Places.{ValuePlaces, PairWordPlaces}
use Rattle.commission.specs.ForecastCall.{forecast_numbers}
use Rattle.commission.specs.SettleCall.{settle_numbers}
use Rattle.commission.specs.Table.{Named, divisor, speeds, densities, balance, cells, outputs, cell, up, down, AllNamed}

-- what is chosen by a call's number: the value where it is 0, else the former contents
pub value_of : {A : Type 0} {number : ℕ} {got : A} (value former : A) → number ≡ 0 → got ≡ pick (eqb number 0) value former → got ≡ value
value_of {number = number} value former z e = e ∙ rw (eq-eqb number 0 z) refl

pub former_of : {A : Type 0} {number : ℕ} {got : A} (value former : A) → (number ≡ 0 → ⊥) → got ≡ pick (eqb number 0) value former → got ≡ former
former_of {number = number} value former n e = e ∙ rw (ne_eqb number 0 n) refl

-- the places, told
pub value_places : {r : Road} {cells ups downs : List ℕ} (f : Refusal) → Placed r cells ups downs f → ValuePlaces r cells ups downs f
value_places f p = (
  λ e. let (k, here, first) = p.cell e in (k, here, (first.above, first.earlier)),
  λ e. let first = p.up e in (first.above, first.earlier),
  λ e. let first = p.down e in (first.above, first.earlier),
)

pub word_places : {r : Road} {cells : List ℕ} {up down : ℕ} {word : List ℕ} (f : Refusal)
    → PairWordPlaced r cells up down word f → PairWordPlaces r cells up down word f
word_places f p = (
  value_places f p.values,
  λ e. let w = p.face e in (w.other_length, λ long. (w.face long, w.offends_there long, w.earlier long)),
)

-- the road's four checks, by name, with those below them
pub road_named : (r : Road) {Below : Type 0} → Below
    → Named 1 (divisor_check r) × (Named 2 (speeds_check r) × (Named 3 (densities_check r) × (Named 4 (balance_check r) × Below)))
road_named r below = divisor r & speeds r & densities r & balance r & below

-- and those of a state
pub two_outputs_named : (r : Road) (xs : List ℕ) (a b n n' m m' : ℕ) → AllNamed (state_checks r xs a b (outputs_check n n' m m' ∷ []))
two_outputs_named r xs a b n n' m m' = road_named r (cells (length xs) & outputs n n' m m' & cell r xs & up r (a ∷ []) & down r (b ∷ []) & tt)

-- what demand 1 says of a call
pub record Told (o : Outcome) : Type 1 where
  pub judged : Judged o.checks o.Checked o.Placed o.refusal
  pub kept : (o.refusal.number ≡ 0 → ⊥) → o.Kept
  pub table : o.refusal ≡ judge o.checks
  pub named : AllNamed o.checks
  pub numbers : map (λ c. c.number) o.checks ≡ o.numbers
  pub rise : (o.numbers ≡ forecast_numbers) ⊎ ((o.numbers ≡ settle_numbers) ⊎ T (rising 0 o.checks))
  pub made : o.refusal.number ≡ 0 → o.Made

-- the judgement of a contract, with its places told otherwise
pub told_as : {checks : List Check} {Checked : Type 0} {From To : Refusal → Type 0} {f : Refusal}
    → ((g : Refusal) → From g → To g) → Judged checks Checked From f → Judged checks Checked To f
told_as {f = f} says j = record { first = j.first; lowest = j.lowest; lower_after = j.lower_after; placed = says f j.placed; accepted = j.accepted; no_other = j.no_other }

-- a flag tells its test
pub same_flag : (b c : Bool) → flag_of b ≡ flag_of c → b ≡ c
same_flag true true e = refl
same_flag true false e = absurd (omega arith)
same_flag false true e = absurd (omega arith)
same_flag false false e = refl
