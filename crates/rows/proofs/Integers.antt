-- Laws of the integers beside the library's: a sum regrouped, and a sum times a number.
use mathlib.Core.Path.{◌≡◌, ap, sym, ◌∙◌}
use Prim.Native.Nat.{zero, suc}
use lib.IntN.{ℤ, pos, negsuc, suc_ℤ, pred_ℤ, ◌+ℤ◌, ◌*ℤ◌, neg_ℤ, suc_ℤ-+ℤ, pred_ℤ-+ℤ, suc_ℤ-*ℤ, pred_ℤ-*ℤ, zero-*ℤ}
use lib.IntN.{+ℤ_idl, +ℤ_assoc, +ℤ_comm}

-- every integer is reached from 0 by steps of one
pub by_steps : (P : ℤ → Type 0) → P (pos 0) → ((m : ℤ) → P m → P (suc_ℤ m)) → ((m : ℤ) → P m → P (pred_ℤ m)) → (k : ℤ) → P k
by_steps P z up down (pos zero) = z
by_steps P z up down (pos (suc n)) = up (pos n) (by_steps P z up down (pos n))
by_steps P z up down (negsuc zero) = down (pos 0) z
by_steps P z up down (negsuc (suc n)) = down (negsuc n) (by_steps P z up down (negsuc n))

-- sums regrouped
+ℤ-swap : (a b c : ℤ) → a +ℤ b +ℤ c ≡ a +ℤ c +ℤ b
+ℤ-swap a b c = +ℤ_assoc a b c ∙ ap (λ x. a +ℤ x) (+ℤ_comm b c) ∙ sym (+ℤ_assoc a c b)

pub +ℤ-cross : (a b c d : ℤ) → (a +ℤ b) +ℤ (c +ℤ d) ≡ (a +ℤ c) +ℤ (b +ℤ d)
+ℤ-cross a b c d = sym (+ℤ_assoc (a +ℤ b) c d) ∙ ap (λ x. x +ℤ d) (+ℤ-swap a b c) ∙ +ℤ_assoc (a +ℤ c) b d

-- a sum times a number
pub +ℤ-times : (a b k : ℤ) → (a +ℤ b) *ℤ k ≡ a *ℤ k +ℤ b *ℤ k
+ℤ-times a b k =
    by_steps (λ x. (x +ℤ b) *ℤ k ≡ x *ℤ k +ℤ b *ℤ k)
    (simp (+ℤ_idl, zero-*ℤ))
    (λ m e. simp (suc_ℤ-+ℤ, suc_ℤ-*ℤ, e) (+ℤ-swap (m *ℤ k) (b *ℤ k) k))
    (λ m e. simp (pred_ℤ-+ℤ, pred_ℤ-*ℤ, e) (+ℤ-swap (m *ℤ k) (b *ℤ k) (neg_ℤ k)))
    a
