-- Seven cases: what holds of each of the seven modes holds of all.
use Prim.Native.Nat.{ℕ, zero, suc, ◌≤◌}
use native.Mathlib.Nat.{not-suc-le-zero}
use native.Mathlib.Omega.{arith}

pub each_mode : (P : ℕ → Type 0) → P 1 → P 2 → P 3 → P 4 → P 5 → P 6 → P 7 → (m : ℕ) → 1 ≤ m → m ≤ 7 → P m
each_mode P a b c d e f g zero low high = absurd (not-suc-le-zero low)
each_mode P a b c d e f g (suc zero) low high = a
each_mode P a b c d e f g (suc (suc zero)) low high = b
each_mode P a b c d e f g (suc (suc (suc zero))) low high = c
each_mode P a b c d e f g (suc (suc (suc (suc zero)))) low high = d
each_mode P a b c d e f g (suc (suc (suc (suc (suc zero))))) low high = e
each_mode P a b c d e f g (suc (suc (suc (suc (suc (suc zero)))))) low high = f
each_mode P a b c d e f g (suc (suc (suc (suc (suc (suc (suc zero))))))) low high = g
each_mode P a b c d e f g (suc (suc (suc (suc (suc (suc (suc (suc k)))))))) low high = absurd (omega arith)
