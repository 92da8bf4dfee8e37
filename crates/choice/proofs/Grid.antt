-- Tests that antt computes for each number below a bound, or for each pair of them: what they say of one number or pair.
use mathlib.Core.Bool.{Bool, true}
use Prim.Native.Nat.{ℕ, zero, suc, ◌<◌}
use native.Mathlib.Nat.{le_of_suc-le-suc, not-suc-le-zero}
use lib.Dec.{T}
use Rattle.choice.specs.Choice.{both}
use Rattle.choice.proofs.Choice.{both_left, both_right}

-- a test that passes at every number below n
abbrev pub upto : ℕ → (ℕ → Bool) → Bool
upto zero f = true
upto (suc n) f = both (f 0) (upto n (λ i. f (suc i)))

pub upto_at : (n : ℕ) (f : ℕ → Bool) → T (upto n f) → (i : ℕ) → i < n → T (f i)
upto_at zero f t i h = absurd (not-suc-le-zero h)
upto_at (suc n) f t zero h = both_left (f 0) (upto n (λ i. f (suc i))) t
upto_at (suc n) f t (suc i) h = upto_at n (λ i. f (suc i)) (both_right (f 0) (upto n (λ i. f (suc i))) t) i (le_of_suc-le-suc h)

-- a test at every pair of numbers below m and n
pub grid_at : (m n : ℕ) (f : ℕ → ℕ → Bool) → T (upto m (λ i. upto n (f i))) → (i k : ℕ) → i < m → k < n → T (f i k)
grid_at m n f t i k h g = upto_at n (f i) (upto_at m (λ i. upto n (f i)) t i h) k g
