-- The tests of an estimate: it passes exactly when it is a finite number from 0 to j, and a whole number exactly from 0 to j.
use mathlib.Core.Path.{◌≡◌, refl, ap, ◌∙◌, sym}
use mathlib.Core.Bool.{Bool, true, false, not, true≢false}
use Prim.Native.Nat.{ℕ, ◌*◌, ◌^◌, ◌≤◌, zero-le}
use native.Mathlib.Nat.{zero-mul}
use borrow.Author.Tests.{ltb-false, le-ltb, eq-eqb}
use lib.IntN.{ℤ, pos, negsuc}
use lib.Signed.{lt_z}
use lib.Ieee.{Float, nan, inf, fin, Format, prec, up, down, level, ne}
use Rattle.floats.specs.Worth.{signed, Worth, exactly, FiniteUpTo, finite, Passes}
use Rattle.floats.proofs.Round.{of_int_worth, zero_worth}
use Rattle.floats.proofs.Order.{lt_worth, lt_whole, whole_lt, inf_lt, lt_inf}

between : {j : ℕ} (z : ℤ) → lt_z z (pos 0) ≡ false → lt_z (pos j) z ≡ false → (n : ℕ) × (z ≡ pos n) × (n ≤ j)
between {j} (pos n) low high = (n, refl, ltb-false j n high)
between (negsuc n) low high = absurd (true≢false low)

pub within : {f : Format} {j : ℕ} {x : Float} {z : ℤ} → j ≤ 2 ^ prec f → Worth x z → Passes f j x
    → (n : ℕ) × (z ≡ pos n) × (n ≤ j)
within {f} {j} {z} l h p =
    between z (sym (lt_worth h (zero_worth f)) ∙ p.low) (sym (lt_worth (of_int_worth f (pos j) l) h) ∙ p.high)

level_self : (s : Bool) (a : ℕ) → level s a s a ≡ true
level_self false a = rw (eq-eqb a a refl)
level_self true a = rw (eq-eqb a a refl)

-- a finite number is no NaN, and so no whole number is
pub finite_known : (s : Bool) (m : ℕ) (e : ℤ) → ne (fin s m e) (fin s m e) ≡ false
unfolding ne
finite_known s m e = ap not (level_self s (m * up e * down e))

pub not_nan : {x : Float} {z : ℤ} → Worth x z → ne x x ≡ false
not_nan (exactly {s} {m} {e} h) = finite_known s m e

pub passes : {f : Format} {j n : ℕ} {x : Float} → j ≤ 2 ^ prec f → Worth x (pos n) → n ≤ j → Passes f j x
passes {f} {j} {n} l h k = record {
  known = not_nan h;
  low = lt_worth h (zero_worth f) ∙ le-ltb n 0 zero-le;
  high = lt_worth (of_int_worth f (pos j) l) h ∙ le-ltb j n k;
}

-- ---- estimates, whole or not
pub finite_of_passes : {f : Format} {j : ℕ} {x : Float} → j ≤ 2 ^ prec f → Passes f j x → FiniteUpTo j x
unfolding ne
finite_of_passes {x = nan} l p = absurd (true≢false p.known)
finite_of_passes {f} {x = inf true} l p = absurd (true≢false (sym (inf_lt true (zero_worth f)) ∙ p.low))
finite_of_passes {f} {j} {x = inf false} l p = absurd (true≢false (sym (lt_inf false (of_int_worth f (pos j) l)) ∙ p.high))
finite_of_passes {f} {j} {x = fin s m e} l p =
    let low : lt_z (signed s (m * up e)) (pos 0) ≡ false = rw (← zero-mul (down e)) (sym (lt_whole s m e (zero_worth f)) ∙ p.low) in
    let (a, h, k) = between (signed s (m * up e)) low (sym (whole_lt s m e (of_int_worth f (pos j) l)) ∙ p.high) in
    finite h k

pub passes_of_finite : {f : Format} {j : ℕ} {x : Float} → j ≤ 2 ^ prec f → FiniteUpTo j x → Passes f j x
passes_of_finite {f} {j} l (finite {s} {m} {a} {e} h k) = record {
  known = finite_known s m e;
  low = lt_whole s m e (zero_worth f) ∙ rw (h, zero-mul) (le-ltb a 0 zero-le);
  high = whole_lt s m e (of_int_worth f (pos j) l) ∙ rw h (le-ltb (j * down e) a k);
}
