-- A step keeps the number of cells.
use mathlib.Core.Path.{◌≡◌, refl, ap}
use mathlib.Core.List.{List, [], ◌∷◌}
use Prim.Native.Nat.{ℕ, suc}
use lib.ListN.{length, get_or}
use Rattle.scheme.specs.Advance.{ahead, advance, flows, entering, stepped}

module _ (m : ℕ) (F : ℕ → ℕ → ℕ → ℕ) where
  pub advance_length : (i w d : ℕ) (xs : List ℕ) → length (advance m F i w d xs) ≡ length xs
  unfolding advance
  advance_length i w d [] = refl
  advance_length i w d (x ∷ xs) = ap suc (advance_length (suc i) (F i x (ahead d xs)) d xs)

  pub stepped_length : (u d : ℕ) (xs : List ℕ) → length (stepped m F u d xs) ≡ length xs
  unfolding stepped
  stepped_length u d xs = advance_length 1 (entering F u d xs) d xs

-- the first of the flows is the one given
pub flows_first : (F : ℕ → ℕ → ℕ → ℕ) (i w d : ℕ) (xs : List ℕ) → get_or (flows F i w d xs) 0 0 ≡ w
unfolding flows
flows_first F i w d [] = refl
flows_first F i w d (x ∷ xs) = refl
