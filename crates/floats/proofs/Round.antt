-- Whole numbers rounded to a format: up to 2 ^ prec they are kept.
use mathlib.Core.Path.{◌≡◌, refl}
use mathlib.Core.Bool.{Bool, true, false}
use Prim.Native.Nat.{ℕ, zero, suc, ◌^◌, ◌≤◌}
use native.Mathlib.Nat.{lt_irrefl}
use lib.IntN.{ℤ, pos, nat_abs}
use lib.Ieee.{Float, fin, Format, binary32, binary64, prec, round, of_int, of_bits}
use lib.Ieee.Back.{round_whole}
use Rattle.floats.specs.Worth.{signed, Worth, exactly}
use Rattle.floats.proofs.Signs.{nat_abs_signed, Plain, Plainly, plainly, plain}
use Rattle.floats.proofs.Value.{Sized, value→sized, sized→worth}

pub round_sized : (f : Format) (s : Bool) (a : ℕ) → nat_abs (signed s a) ≤ 2 ^ prec f → Sized (round f s a 1) s a
round_sized f s a h = value→sized (round_whole f s a (rw nat_abs_signed at h))

-- x is the whole number z, rounded to the format
pub data Rounded (f : Format) : ℤ → Float → Type 0 where
  rounded : (s : Bool) (a : ℕ) → Rounded f (signed s a) (round f s a 1)

pub rounded_worth : {f : Format} {z : ℤ} {x : Float} → Rounded f z x → nat_abs z ≤ 2 ^ prec f → Worth x z
rounded_worth {f} (rounded s a) h = sized→worth (round_sized f s a h)

-- ---- an integer as a float
pub of_int_round : (f : Format) (s : Bool) (a : ℕ) → Plain s a → of_int f (signed s a) ≡ round f s a 1
unfolding of_int
of_int_round f false a p = refl
of_int_round f true zero p = absurd (lt_irrefl 0 p)
of_int_round f true (suc a) p = refl

pub of_int_worth : (f : Format) (z : ℤ) → nat_abs z ≤ 2 ^ prec f → Worth (of_int f z) z
of_int_worth f z = go (plain z)
  where
    go : {z : ℤ} → Plainly z → nat_abs z ≤ 2 ^ prec f → Worth (of_int f z) z
    go (plainly s a p) h = rw (of_int_round f s a p) (rounded_worth (rounded s a) h)

-- ---- the literal 0.0
pub zero_is : (f : Format) → of_bits f 0 ≡ fin false 0 (pos 0)
unfolding of_bits
zero_is binary32 = refl
zero_is binary64 = refl

pub zero_worth : (f : Format) → Worth (of_bits f 0) (pos 0)
zero_worth f = rw (zero_is f) (exactly refl)
