-- Changes in signed numbers of 32 bits: what is written is read back.
use mathlib.Core.Path.{◌≡◌, ◌∙◌, ap, subst, sym}
use Prim.Native.Nat.{ℕ, ◌≤◌, ◌<◌, ◌^◌}
use native.Mathlib.Nat.{le_trans, lt_of_le_of_lt}
use native.Mathlib.Omega.{arith}
use lib.Dec.{lit<}
use lib.IntN.{ℤ, pos, negsuc, neg_ℤ, nat_abs, ◌-ℤ◌, +ℤ_idl}
use lib.Signed.{mag}
use mir.Syntax.{w32}
use mir.Val.{SFits, to_z, of_z}
use mir.Facts.{to_z-of_z, to_z_pos}
use Rattle.road.specs.Ceilings.{jam_ceiling}
use Rattle.floats.proofs.Signs.{nat_abs_neg}

mag_size : (z : ℤ) → mag z ≤ nat_abs z
mag_size (pos n) = omega arith
mag_size (negsuc n) = omega arith

-- a number that the code worked out, by what it is shown to be: a change of no more than the highest jam density is read back as it was written
small_fits : {z w : ℤ} → z ≡ w → nat_abs w ≤ jam_ceiling → SFits w32 z
small_fits {z} {w} e h = subst (SFits w32) (sym e) (record { sfits = lt_of_le_of_lt (le_trans (mag_size w) h) (lit< tt) })

pub exact_in_i32 : {z w : ℤ} → z ≡ w → nat_abs w ≤ jam_ceiling → to_z w32 (of_z w32 z) ≡ w
exact_in_i32 e h = to_z-of_z (small_fits e h) ∙ e

module _ (n : ℕ) (small : n ≤ jam_ceiling) where
  pub up_exact : to_z w32 n ≡ pos n
  up_exact = to_z_pos w32 (lt_of_le_of_lt small (lit< tt))

  pub down_small : nat_abs (neg_ℤ (pos n)) ≤ jam_ceiling
  down_small = subst (λ (m : ℕ). m ≤ jam_ceiling) (sym (nat_abs_neg (pos n))) small

  lowered_is : pos 0 -ℤ to_z w32 n ≡ neg_ℤ (pos n)
  lowered_is = ap (λ z. pos 0 -ℤ z) up_exact ∙ +ℤ_idl (neg_ℤ (pos n))

  pub lowered_exact : to_z w32 (of_z w32 (pos 0 -ℤ to_z w32 n)) ≡ neg_ℤ (pos n)
  lowered_exact = exact_in_i32 lowered_is down_small

-- the size of a change that was read back
pub read_size : (z : ℤ) {n : ℕ} → mag z < 2 ^ 31 → n ≡ nat_abs (to_z w32 (of_z w32 z)) → n ≡ nat_abs z
read_size z fits e = e ∙ ap nat_abs (to_z-of_z {w = w32} {z = z} (record { sfits = fits }))
