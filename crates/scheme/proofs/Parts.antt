-- Parts of a run are the run: the steps of two pairs of end lists joined are those of the first pair, then those of the second from the cells that the first leaves.
use mathlib.Core.Path.{◌≡◌, ◌∙◌, refl, sym, ap}
use mathlib.Core.List.{List, [], ◌∷◌, ◌++◌}
use Prim.Native.Nat.{ℕ, ◌+◌}
use native.Mathlib.Nat.{suc_inj, add_assoc}
use native.Mathlib.Omega.{arith}
use lib.ListN.{length}
use Rattle.road.specs.declared.Road.{Road}
use Rattle.scheme.specs.Advance.{entering, leaving}
use Rattle.scheme.specs.Runs.{ran, summed}
use Rattle.scheme.specs.Rounded.{moved, round_step, round_run, entered, left}

-- of one step S, for lists of any length
module _ (S : ℕ → ℕ → List ℕ → List ℕ) where
  ran_parts : (ups downs more others xs : List ℕ) → length ups ≡ length downs
      → ran (λ t. S) (ups ++ more) (downs ++ others) xs ≡ ran (λ t. S) more others (ran (λ t. S) ups downs xs)
  unfolding ran
  ran_parts [] [] more others xs e = refl
  ran_parts [] (d ∷ downs) more others xs e = absurd (omega arith)
  ran_parts (u ∷ ups) [] more others xs e = absurd (omega arith)
  ran_parts (u ∷ ups) (d ∷ downs) more others xs e = ran_parts ups downs more others (S u d xs) (suc_inj e)

  summed_parts : (f : ℕ → ℕ → List ℕ → ℕ) (ups downs more others xs : List ℕ) → length ups ≡ length downs
      → summed (λ t. S) (λ t. f) (ups ++ more) (downs ++ others) xs ≡ summed (λ t. S) (λ t. f) ups downs xs + summed (λ t. S) (λ t. f) more others (ran (λ t. S) ups downs xs)
  unfolding ran summed
  summed_parts f [] [] more others xs e = omega arith
  summed_parts f [] (d ∷ downs) more others xs e = absurd (omega arith)
  summed_parts f (u ∷ ups) [] more others xs e = absurd (omega arith)
  summed_parts f (u ∷ ups) (d ∷ downs) more others xs e =
      ap (λ (n : ℕ). f u d xs + n) (summed_parts f ups downs more others (S u d xs) (suc_inj e)) ∙ sym (add_assoc (f u d xs) _ _)

-- of the rounded scheme on a road under caps: its cells, and what enters and leaves
module _ (r : Road) (caps ups downs more others xs : List ℕ) (e : length ups ≡ length downs) where
  pub run_parts : round_run r caps (ups ++ more) (downs ++ others) xs ≡ round_run r caps more others (round_run r caps ups downs xs)
  unfolding round_run
  run_parts = ran_parts (round_step r caps) ups downs more others xs e

  pub entered_parts : entered r caps (ups ++ more) (downs ++ others) xs ≡ entered r caps ups downs xs + entered r caps more others (round_run r caps ups downs xs)
  unfolding round_run entered
  entered_parts = summed_parts (round_step r caps) (entering (moved r caps)) ups downs more others xs e

  pub left_parts : left r caps (ups ++ more) (downs ++ others) xs ≡ left r caps ups downs xs + left r caps more others (round_run r caps ups downs xs)
  unfolding round_run left
  left_parts = summed_parts (round_step r caps) (leaving (moved r caps)) ups downs more others xs e
