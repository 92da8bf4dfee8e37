-- The judgement of a state: what its checks say where they do not refuse, the other way round, and what its shape leaves to judge.
use mathlib.Core.Path.{◌≡◌, refl}
use mathlib.Core.Bool.{Bool, false}
use mathlib.Core.List.{List, [], ◌∷◌, ◌++◌}
use Prim.Native.Nat.{ℕ, ◌≤◌}
use lib.ListN.{length}
use Rattle.refusal.specs.Table.{Check, check, passed, judge_below, judge}
use Rattle.refusal.specs.Outcome.{Outcome}
use Rattle.refusal.proofs.Table.{Passing, ◌&◌, none_holds, failing_left_out}
use Rattle.refusal.proofs.Parts.{part_stands, part_goes_on, parts_pass}
use Rattle.refusal.proofs.Calls.{Call}
use Rattle.road.specs.Ceilings.{cells_ceiling}
use Rattle.road.specs.Judgement.{bad_divisor, bad_speeds, bad_densities, unbalanced}
use Rattle.road.specs.declared.Road.{Road}
use Rattle.road.proofs.Acceptance.{accepted_by, road_passes}
use Rattle.checks.specs.Lists.{bad_cells}
use Rattle.checks.specs.Values.{any_above}
use Rattle.checks.specs.Checks.{pair_checks}
use Rattle.checks.specs.Places.{Placed}
use Rattle.checks.specs.State.{state_shape_checks, state_checks, state_shape_refusal, state_refusal, StateChecked}
use Rattle.checks.proofs.First.{all_below}
use Rattle.checks.proofs.Checks.{cells_low, cells_high, cells_pass, pair_passes}
use Rattle.checks.proofs.Places.{values_placed}

-- the shape, and what is judged below it
module _ (r : Road) (n : ℕ) where
  module _ (bad : Bool) where
    -- a refusal of it stands
    pub shape_stands : (rest : List Check) (f : Outcome) → f ≡ state_shape_refusal r n bad → (f.number ≡ 0 → ⊥)
        → f ≡ judge (state_shape_checks r n (check bad 8 0 ∷ []) ++ rest)
    unfolding state_shape_refusal
    shape_stands = part_stands (state_shape_checks r n (check bad 8 0 ∷ []))

    -- otherwise the cells are few, and the rest is judged
    pub shape_short : (state_shape_refusal r n bad).number ≡ 0 → n ≤ cells_ceiling
    unfolding state_shape_refusal
    shape_short e = cells_high n (none_holds (state_shape_checks r n (check bad 8 0 ∷ [])) tt e 5)

    pub shape_goes_on : (rest : List Check) {f g : Outcome} → f ≡ state_shape_refusal r n bad → g ≡ judge_below f rest
        → g ≡ judge (state_shape_checks r n (check bad 8 0 ∷ []) ++ rest)
    unfolding state_shape_refusal
    shape_goes_on = part_goes_on (state_shape_checks r n (check bad 8 0 ∷ []))

  -- a call that has no output has no check 8
  pub without_outputs : (rest : List Check) → judge (state_shape_checks r n (check false 8 0 ∷ []) ++ rest) ≡ judge (state_shape_checks r n [] ++ rest)
  without_outputs rest = failing_left_out (state_shape_checks r n []) rest 8 0

module _ (r : Road) (cells : List ℕ) (up down : ℕ) where
  -- a state that is checked, from the tests that fail
  pub state_checked : bad_divisor r ≡ false → bad_speeds r ≡ false → bad_densities r ≡ false → unbalanced r ≡ false → bad_cells (length cells) ≡ false
      → any_above r.jam cells ≡ false → any_above r.jam (up ∷ []) ≡ false → any_above r.jam (down ∷ []) ≡ false → StateChecked r cells up down
  state_checked one two three four five nine ten eleven = record {
    accepted = accepted_by r one two three four;
    cells_low = cells_low (length cells) five;
    cells_high = cells_high (length cells) five;
    cells_below = all_below r.jam cells nine;
    up_below = all_below r.jam (up ∷ []) ten 0;
    down_below = all_below r.jam (down ∷ []) eleven 0;
  }

  pub state_of : (bad : Bool) → (state_refusal r cells up down bad).number ≡ 0 → StateChecked r cells up down
  unfolding state_refusal
  state_of bad e =
      let no = none_holds (state_checks r cells up down (check bad 8 0 ∷ [])) tt e in
      state_checked (no 1) (no 2) (no 3) (no 4) (no 5) (no 9) (no 10) (no 11)

  -- the shape passed, and then the pair
  module _ (bad : Bool) (shape : passed ≡ state_shape_refusal r (length cells) bad) where
    pub below_shape : {o : Outcome} → o ≡ judge (pair_checks r cells up down) → o ≡ state_refusal r cells up down bad
    unfolding state_shape_refusal state_refusal
    below_shape = part_goes_on (state_shape_checks r (length cells) (check bad 8 0 ∷ [])) (pair_checks r cells up down) shape

  -- and the other way round, with what is known of the call's outputs and of the checks below
  pub state_passes : StateChecked r cells up down → (outputs rest : List Check) → Passing outputs → Passing rest
      → Passing (state_shape_checks r (length cells) outputs ++ (pair_checks r cells up down ++ rest))
  state_passes s outputs rest o below =
      road_passes r s.accepted
      (cells_pass (length cells) s.cells_low s.cells_high
      & parts_pass outputs (pair_checks r cells up down ++ rest) o (pair_passes r cells up down s.cells_below s.up_below s.down_below below))

  -- demand 1 of a call with these checks alone, from what its outputs are where they are not bad
  pub state_call : (bad : Bool) {Checked : Type 0} → (StateChecked r cells up down → bad ≡ false → Checked)
      → (Checked → StateChecked r cells up down) → (Checked → bad ≡ false)
      → Call (state_checks r cells up down (check bad 8 0 ∷ [])) Checked (Placed r cells (up ∷ []) (down ∷ [])) (state_refusal r cells up down bad)
  unfolding state_refusal
  state_call bad make state good = record {
    comes_to = refl;
    distinct = tt;
    placed = λ at. values_placed r cells (up ∷ []) (down ∷ []) _ (at 9 tt) (at 10 tt) (at 11 tt);
    clear_checked = λ no. make (state_checked (no 1) (no 2) (no 3) (no 4) (no 5) (no 9) (no 10) (no 11)) (no 8);
    passes = λ c. state_passes (state c) (check bad 8 0 ∷ []) [] (good c & tt) tt;
  }
