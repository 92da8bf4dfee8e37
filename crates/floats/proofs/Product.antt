-- The product of two floats that are whole numbers.
use mathlib.Core.Path.{◌≡◌, ap₂, ◌∙◌}
use mathlib.Core.Bool.{Bool}
use Prim.Native.Nat.{ℕ, ◌*◌, ◌^◌, ◌≤◌}
use native.Mathlib.Nat.{mul-pos, mul-one, mul-mul-mul_comm, zero-lt-suc}
use lib.IntN.{ℤ, nat_abs, ◌*ℤ◌}
use lib.Ieee.{Float, Format, prec, up, down, unlike, round, mul}
use lib.Ieee.Fits.{down_pos}
use lib.Ieee.Scale.{round_same}
use Rattle.floats.specs.Worth.{Worth}
use Rattle.floats.proofs.Signs.{signed_mul}
use Rattle.floats.proofs.Value.{Sized, sized, Valued, valued, worth→value}
use Rattle.floats.proofs.Round.{Rounded, rounded, rounded_worth}

pub mul_round : (f : Format) {x y : Float} {s t : Bool} {a b : ℕ} → Sized x s a → Sized y t b
    → mul f x y ≡ round f (unlike s t) (a * b) 1
unfolding mul
mul_round f (sized {s} {m} {e} {a} h) (sized {s = t} {m = n} {e = d} {a = b} k) =
    round_same f (unlike s t) (m * up e * (n * up d)) (down e * down d) (a * b) 1 (mul-pos (down_pos e) (down_pos d)) (zero-lt-suc 0)
    (mul-one (m * up e * (n * up d)) ∙ ap₂ ◌*◌ h k ∙ mul-mul-mul_comm a (down e) b (down d))

mul_rounded : (f : Format) {x y : Float} {z w : ℤ} → Valued x z → Valued y w → Rounded f (z *ℤ w) (mul f x y)
mul_rounded f (valued {s} {a} h) (valued {s = t} {a = b} k) =
    rw (mul_round f h k, ← signed_mul s t a b) (rounded (unlike s t) (a * b))

pub mul_worth : (f : Format) {x y : Float} {z w : ℤ} → Worth x z → Worth y w → nat_abs (z *ℤ w) ≤ 2 ^ prec f
    → Worth (mul f x y) (z *ℤ w)
mul_worth f h k l = rounded_worth (mul_rounded f (worth→value h) (worth→value k)) l
