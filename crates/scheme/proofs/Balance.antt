-- Balance: what was there (times m) and what came in is what is there and what went out.
use mathlib.Core.Path.{◌≡◌}
use mathlib.Core.List.{List, [], ◌∷◌}
use Prim.Native.Nat.{ℕ, suc, ◌+◌, ◌*◌}
use native.Mathlib.Nat.{mul-zero, mul-add}
use native.Mathlib.Omega.{arith}
use Rattle.scheme.specs.Advance.{ahead, advance, outflow, entering, leaving, stepped}
use Rattle.scheme.specs.Sums.{sum}
use Rattle.scheme.specs.Partners.{Lawful}

module _ {m j c : ℕ} {F : ℕ → ℕ → ℕ → ℕ} (laws : Lawful m j c F) where
  pub advance_balance : (i w d : ℕ) (xs : List ℕ) → sum (advance m F i w d xs) + outflow F i w d xs ≡ m * sum xs + w
  unfolding advance outflow sum
  advance_balance i w d [] = omega (arith, mul-zero m)
  advance_balance i w d (x ∷ xs) =
      omega (arith, advance_balance (suc i) (F i x (ahead d xs)) d xs, (laws i).send x (ahead d xs), mul-add m x (sum xs))

  pub stepped_balance : (u d : ℕ) (xs : List ℕ) → sum (stepped m F u d xs) + leaving F u d xs ≡ m * sum xs + entering F u d xs
  unfolding stepped leaving
  stepped_balance u d xs = advance_balance 1 (entering F u d xs) d xs
