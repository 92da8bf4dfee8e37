-- No number above or below 0 is rounded to −0 unless it is finer than the format's smallest value.
use mathlib.Core.Path.{◌≡◌, refl, subst}
use mathlib.Core.Bool.{Bool, true, false, not, cond}
use Prim.Native.Nat.{ℕ, zero, suc, ◌*◌, ◌^◌, ◌≤◌, ◌<◌}
use native.Mathlib.Nat.{mul-le-mul}
use lib.Dec.{T, ltb}
use lib.IntN.{ℤ}
use lib.Pow.{pow_pos}
use lib.Ieee.{Float, nan, inf, fin, Format, binary32, binary64, prec, low, odd, units, round, neg}
use lib.Ieee.Fits.{round_is}
use lib.Ieee.Order.{round_mono}
use lib.Ieee.Scale.{overflow}
use lib.Ieee.Positive.{positive, above, above_of_le}
use Rattle.floats.proofs.Signs.{Plain}

-- any float but −0
abbrev pub NotMinusZero : Float → Type 0
NotMinusZero nan = Unit {0}
NotMinusZero (inf s) = Unit {0}
NotMinusZero (fin false m e) = Unit {0}
NotMinusZero (fin true zero e) = ⊥
NotMinusZero (fin true (suc m) e) = Unit {0}

pub never : {x : Float} → NotMinusZero x → (e : ℤ) → x ≡ fin true 0 e → ⊥
never u e q = subst NotMinusZero q u

-- ---- a rounding of the other sign gives the negated float
neg_odd : (d : ℕ) (s : Bool) (q k l : ℕ) → neg (odd d s q k l) ≡ odd d (not s) q k l
unfolding neg odd
neg_odd d s zero k l = refl
neg_odd d s (suc q) k l = refl

neg_units : (f : Format) (s : Bool) (q k : ℕ) → neg (units f s q k) ≡ units f (not s) q k
unfolding units
neg_units f s q k = go (ltb (q * 2 ^ k) (overflow f))
  where
    go : (b : Bool) → neg (cond b (odd (suc (prec f)) s q k (low f)) (inf s)) ≡ cond b (odd (suc (prec f)) (not s) q k (low f)) (inf (not s))
    go true = neg_odd (suc (prec f)) s q k (low f)
    go false = unfold neg in refl

neg_round : (f : Format) (s : Bool) (a d : ℕ) → neg (round f s a d) ≡ round f (not s) a d
neg_round f s a d = rw (round_is f s a d, round_is f (not s) a d) (neg_units f s _ _)

-- ---- from the format's smallest value on a number above zero rounds to one above zero
least_positive : (f : Format) → T (positive (round f false 1 (2 ^ low f)))
unfolding round
least_positive binary32 = tt
least_positive binary64 = tt

above_plain : (x : Float) → T (above (neg x)) → NotMinusZero x
unfolding neg
above_plain nan h = tt
above_plain (inf s) h = tt
above_plain (fin false m e) h = tt
above_plain (fin true zero e) h = absurd h
above_plain (fin true (suc m) e) h = tt

-- ---- without a − no rounding has one
odd_plain : (d q k l : ℕ) → NotMinusZero (odd d false q k l)
unfolding odd
odd_plain d zero k l = tt
odd_plain d (suc q) k l = tt

units_plain : (f : Format) (q k : ℕ) → NotMinusZero (units f false q k)
unfolding units
units_plain f q k = go (ltb (q * 2 ^ k) (overflow f))
  where
    go : (b : Bool) → NotMinusZero (cond b (odd (suc (prec f)) false q k (low f)) (inf false))
    go true = odd_plain (suc (prec f)) q k (low f)
    go false = tt

-- a fraction with no − before a 0, in steps no finer than the format's smallest value
module _ (f : Format) (a d : ℕ) (some : 0 < d) (coarse : d ≤ 2 ^ low f) where
  round_above : 0 < a → T (above (round f false a d))
  round_above h =
      above_of_le (round f false 1 (2 ^ low f)) (round f false a d) (least_positive f)
      (round_mono f 1 (2 ^ low f) a d (pow_pos (low f)) some (mul-le-mul h coarse))

  pub round_plain : (s : Bool) → Plain s a → NotMinusZero (round f s a d)
  round_plain false p = rw (round_is f false a d) (units_plain f _ _)
  round_plain true p = above_plain (round f true a d) (rw (neg_round f true a d) (round_above p))
