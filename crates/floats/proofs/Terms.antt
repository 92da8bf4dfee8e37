-- The sign and the size of a sum, from the signs and the sizes of its two terms.
use mathlib.Core.Path.{◌≡◌, sym, ap, ◌∙◌}
use mathlib.Core.Bool.{Bool, true, false, not}
use Prim.Native.Nat.{ℕ, ◌+◌, ◌-◌, ◌*◌, ◌<◌}
use native.Mathlib.Decide.{dec_lt}
use native.Mathlib.Nat.{mul-pos, add-mul, zero-mul}
use native.Mathlib.Omega.{arith}
use lib.IntN.{◌+ℤ◌}
use Rattle.floats.specs.Worth.{signed}
use Rattle.floats.proofs.Signs.{Plain, above, signed_add, signed_behind, signed_ahead, opposite}

-- u and c are the sign and the size of the sum
pub data Adds : Bool → ℕ → Bool → ℕ → Bool → ℕ → Type 0 where
  alike : {s : Bool} {a b : ℕ} → Adds s a s b s (a + b)
  behind : {s : Bool} {a b c : ℕ} → a + c ≡ b → 0 < c → Adds s a (not s) b (not s) c
  ahead : {s : Bool} {a b c : ℕ} → b + c ≡ a → 0 < c → Adds s a (not s) b s c
  level : {s : Bool} {a b : ℕ} → a ≡ b → Adds s a (not s) b false 0

against : (s : Bool) (a b : ℕ) → (u : Bool) × (c : ℕ) × Adds s a (not s) b u c
against s a b = go (dec_lt a b) (dec_lt b a)
  where
    go : Dec (a < b) → Dec (b < a) → (u : Bool) × (c : ℕ) × Adds s a (not s) b u c
    go (yes h) k = (not s, b - a, behind {a = a} {b = b} {c = b - a} (omega arith) (omega arith))
    go (no h) (yes k) = (s, a - b, ahead {a = a} {b = b} {c = a - b} (omega arith) (omega arith))
    go (no h) (no k) = (false, 0, level {a = a} {b = b} (omega arith))

pub adds : (s : Bool) (a : ℕ) (t : Bool) (b : ℕ) → (u : Bool) × (c : ℕ) × Adds s a t b u c
adds false a false b = (false, a + b, alike)
adds false a true b = against false a b
adds true a false b = against true a b
adds true a true b = (true, a + b, alike)

-- a positive multiple of both terms gives that multiple of the sum
pub adds_times : {s t u : Bool} {a b c : ℕ} (d : ℕ) → 0 < d → Adds s a t b u c → Adds s (a * d) t (b * d) u (c * d)
adds_times d p (alike {a} {b}) = rw (add-mul a b d) alike
adds_times d p (behind {a} {c} e h) = behind (sym (add-mul a c d) ∙ ap (λ (n : ℕ). n * d) e) (mul-pos h p)
adds_times d p (ahead {b} {c} e h) = ahead (sym (add-mul b c d) ∙ ap (λ (n : ℕ). n * d) e) (mul-pos h p)
adds_times d p (level e) = rw (zero-mul d) (level (ap (λ (n : ℕ). n * d) e))

pub adds_signed : {s t u : Bool} {a b c : ℕ} → Adds s a t b u c → signed u c ≡ signed s a +ℤ signed t b
adds_signed (alike {s} {a} {b}) = signed_add s a b
adds_signed (behind {s} {a} {c} e h) = rw (← e) (signed_behind s a c)
adds_signed (ahead {s} {b} {c} e h) = rw (← e) (signed_ahead s b c)
adds_signed (level {s} {a} e) = rw (← e) (sym (opposite s a))

-- no −0 as the second term, no −0 as the sum
pub adds_plain : {s t u : Bool} {a b c : ℕ} → Adds s a t b u c → Plain t b → Plain u c
adds_plain (alike {s = false}) p = tt
adds_plain (alike {s = true} {a} {b}) p = omega arith
adds_plain (behind {s} e h) p = above (not s) h
adds_plain (ahead {s} e h) p = above s h
adds_plain (level e) p = tt
