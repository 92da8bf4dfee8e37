-- A step by what enters: the faces after face 0 see neither the upstream density nor what limits face 0.
use mathlib.Core.Path.{◌≡◌, refl}
use mathlib.Core.List.{List, [], ◌∷◌}
use Prim.Native.Nat.{ℕ, suc}
use Rattle.scheme.specs.Advance.{ahead, advance, outflow, entering, leaving, stepped}

-- for a flow G that is F past face 0
module _ (m : ℕ) (F G : ℕ → ℕ → ℕ → ℕ) (past : (i a b : ℕ) → G (suc i) a b ≡ F (suc i) a b) where
  advance_past : (i w d : ℕ) (xs : List ℕ) → advance m G (suc i) w d xs ≡ advance m F (suc i) w d xs
  unfolding advance
  advance_past i w d [] = refl
  advance_past i w d (x ∷ xs) = cc (past i x (ahead d xs), advance_past (suc i) (F (suc i) x (ahead d xs)) d xs)

  outflow_past : (i w d : ℕ) (xs : List ℕ) → outflow G (suc i) w d xs ≡ outflow F (suc i) w d xs
  unfolding outflow
  outflow_past i w d [] = refl
  outflow_past i w d (x ∷ xs) = cc (past i x (ahead d xs), outflow_past (suc i) (F (suc i) x (ahead d xs)) d xs)

  -- G's step is F's from what G lets over face 0, and so is what leaves
  pub step_by_inflow : (u d : ℕ) (xs : List ℕ) → stepped m G u d xs ≡ advance m F 1 (entering G u d xs) d xs
  unfolding stepped
  step_by_inflow u d xs = advance_past 0 (entering G u d xs) d xs

  pub left_by_inflow : (u d : ℕ) (xs : List ℕ) → leaving G u d xs ≡ outflow F 1 (entering G u d xs) d xs
  unfolding leaving
  left_by_inflow u d xs = outflow_past 0 (entering G u d xs) d xs
