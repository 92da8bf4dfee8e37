-- Three products and a constant of whole numbers, computed in floats, are the integer row as a float.
use mathlib.Core.Path.{◌≡◌}
use Prim.Native.Nat.{◌+◌, ◌*◌, ◌^◌, ◌≤◌}
use native.Mathlib.Omega.{arith}
use lib.IntN.{ℤ, nat_abs, ◌+ℤ◌, ◌*ℤ◌}
use lib.Ieee.{Float, Format, prec, add, mul, of_int}
use Rattle.floats.specs.Worth.{Worth}
use Rattle.floats.proofs.Signs.{nat_abs_mul, nat_abs_add}
use Rattle.floats.proofs.Round.{of_int_worth}
use Rattle.floats.proofs.Product.{mul_worth}
use Rattle.floats.proofs.Sum.{add_worth, add_of_int}

-- Each partial value is a whole number up to 2 ^ prec, so nothing is rounded. A coefficient too is bounded, for 0 times an infinity is no number.
pub row_exact : (f : Format) {x y w : Float} {a b c : ℤ} (k₁ k₂ k₃ k₀ : ℤ) → Worth x a → Worth y b → Worth w c
    → nat_abs k₁ ≤ 2 ^ prec f → nat_abs k₂ ≤ 2 ^ prec f → nat_abs k₃ ≤ 2 ^ prec f
    → nat_abs a * nat_abs k₁ + nat_abs b * nat_abs k₂ + nat_abs c * nat_abs k₃ + nat_abs k₀ ≤ 2 ^ prec f
    → add f (add f (add f (mul f x (of_int f k₁)) (mul f y (of_int f k₂))) (mul f w (of_int f k₃))) (of_int f k₀)
    ≡ of_int f (a *ℤ k₁ +ℤ b *ℤ k₂ +ℤ c *ℤ k₃ +ℤ k₀)
row_exact f {a} {b} {c} k₁ k₂ k₃ k₀ h₁ h₂ h₃ l₁ l₂ l₃ m =
    let e₁ = nat_abs_mul a k₁ in
    let e₂ = nat_abs_mul b k₂ in
    let e₃ = nat_abs_mul c k₃ in
    let s₂ = nat_abs_add (a *ℤ k₁) (b *ℤ k₂) in
    let s₃ = nat_abs_add (a *ℤ k₁ +ℤ b *ℤ k₂) (c *ℤ k₃) in
    let t₁ = mul_worth f h₁ (of_int_worth f k₁ l₁) (omega arith) in
    let t₂ = mul_worth f h₂ (of_int_worth f k₂ l₂) (omega arith) in
    let t₃ = mul_worth f h₃ (of_int_worth f k₃ l₃) (omega arith) in
    add_of_int f k₀ (add_worth f (add_worth f t₁ t₂ (omega arith)) t₃ (omega arith)) (omega arith)
