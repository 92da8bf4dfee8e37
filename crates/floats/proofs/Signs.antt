-- Whole numbers by their sign and their size.
use mathlib.Core.Path.{◌≡◌, refl, sym, ap, ◌∙◌}
use mathlib.Core.Bool.{Bool, true, false, not, cond}
use Prim.Native.Nat.{ℕ, zero, suc, ◌+◌, ◌-◌, ◌*◌, ◌≤◌, ◌<◌}
use native.Mathlib.Nat.{zero-mul, mul-zero, zero-lt-suc, mul-pos, sub-add_cancel, le_of_lt, lt_of_not-le}
use native.Mathlib.Decide.{dec_le}
use native.Mathlib.Omega.{arith}
use lib.Dec.{ltb}
use lib.IntN.{ℤ, pos, negsuc, neg_ℤ, nat_abs, sub_ℕ, ◌+ℤ◌, ◌-ℤ◌, ◌*ℤ◌, pos-ne-negsuc, neg_ℤ-neg_ℤ, neg_ℤ-+ℤ, +ℤ_assoc, +ℤ_comm, +ℤ_idl, +ℤ_invl, +ℤ_invr, +ℤ-neg_ℤ_cancel}
use lib.Ieee.{unlike}
use Rattle.floats.specs.Worth.{signed}

-- ---- sizes
pub nat_abs_neg : (z : ℤ) → nat_abs (neg_ℤ z) ≡ nat_abs z
nat_abs_neg (pos zero) = refl
nat_abs_neg (pos (suc n)) = refl
nat_abs_neg (negsuc n) = refl

pub nat_abs_signed : (s : Bool) (a : ℕ) → nat_abs (signed s a) ≡ a
nat_abs_signed false a = refl
nat_abs_signed true a = nat_abs_neg (pos a)

-- a number not below 0 is its own size
pub signed_size : (s : Bool) {a n : ℕ} → signed s a ≡ pos n → a ≡ n
signed_size s {a} e = sym (nat_abs_signed s a) ∙ ap nat_abs e

pub nat_abs_mul : (z w : ℤ) → nat_abs (z *ℤ w) ≡ nat_abs z * nat_abs w
nat_abs_mul (pos a) (pos b) = refl
nat_abs_mul (pos a) (negsuc b) = nat_abs_neg (pos (a * suc b))
nat_abs_mul (negsuc a) (pos b) = nat_abs_neg (pos (suc a * b))
nat_abs_mul (negsuc a) (negsuc b) = refl

nat_abs_sub : (a b : ℕ) → nat_abs (sub_ℕ a (suc b)) ≤ a + suc b
nat_abs_sub a b = go (ltb a (suc b))
  where
    go : (t : Bool) → nat_abs (cond t (negsuc (suc b - suc a)) (pos (a - suc b))) ≤ a + suc b
    go true = omega arith
    go false = omega arith

pub nat_abs_add : (z w : ℤ) → nat_abs (z +ℤ w) ≤ nat_abs z + nat_abs w
nat_abs_add (pos a) (pos b) = omega arith
nat_abs_add (pos a) (negsuc b) = nat_abs_sub a b
nat_abs_add (negsuc a) (pos b) = omega (arith, nat_abs_sub b a)
nat_abs_add (negsuc a) (negsuc b) = omega arith

-- ---- products and sums by sign and size
-- where a factor is 0 the product is 0, whatever the signs say
pub signed_mul : (s t : Bool) (a b : ℕ) → signed (unlike s t) (a * b) ≡ signed s a *ℤ signed t b
signed_mul false false a b = refl
signed_mul false true a zero = rw mul-zero
signed_mul false true a (suc b) = refl
signed_mul true false zero b = rw zero-mul
signed_mul true false (suc a) b = refl
signed_mul true true zero zero = refl
signed_mul true true zero (suc b) = rw zero-mul
signed_mul true true (suc a) zero = rw mul-zero
signed_mul true true (suc a) (suc b) = refl

pub signed_times : (s : Bool) (a d : ℕ) → signed s (a * d) ≡ signed s a *ℤ pos d
signed_times false a d = refl
signed_times true a d = signed_mul true false a d

pub signed_add : (s : Bool) (a b : ℕ) → signed s (a + b) ≡ signed s a +ℤ signed s b
signed_add false a b = refl
signed_add true a b = neg_ℤ-+ℤ (pos a) (pos b)

pub opposite : (s : Bool) (a : ℕ) → signed s a +ℤ signed (not s) a ≡ pos 0
opposite false a = +ℤ_invr (pos a)
opposite true a = +ℤ_invl (pos a)

-- what is left of the larger of two opposite numbers
pub signed_behind : (s : Bool) (a c : ℕ) → signed (not s) c ≡ signed s a +ℤ signed (not s) (a + c)
signed_behind s a c = sym (rw (signed_add (not s) a c, ← +ℤ_assoc, opposite, +ℤ_idl))

pub signed_ahead : (s : Bool) (b c : ℕ) → signed s c ≡ signed s (b + c) +ℤ signed (not s) b
signed_ahead s b c =
    sym (rw (signed_add s b c, +ℤ_comm (signed s b +ℤ signed s c), ← +ℤ_assoc, +ℤ_comm (signed (not s) b), opposite, +ℤ_idl))

-- a number above zero is none below it
apart : (a k : ℕ) → 0 < k → pos a ≡ neg_ℤ (pos k) → ⊥
apart a zero h e = omega arith
apart a (suc k) h e = pos-ne-negsuc a k e

-- the size and the sign of a number, from a positive multiple of it
pub same_size : (s : Bool) (a d : ℕ) (z : ℤ) → signed s a ≡ z *ℤ pos d → a ≡ nat_abs z * d
same_size s a d z e = sym (nat_abs_signed s a) ∙ ap nat_abs e ∙ nat_abs_mul z (pos d)

pub same_sign : (s : Bool) (a d : ℕ) (z : ℤ) → 0 < d → signed s a ≡ z *ℤ pos d → signed s (nat_abs z) ≡ z
same_sign false a d (pos n) h e = refl
same_sign false a d (negsuc n) h e = absurd (apart a (suc n * d) (mul-pos (zero-lt-suc n) h) e)
same_sign true a d (pos zero) h e = refl
same_sign true a d (pos (suc n)) h e =
    absurd (apart a (suc n * d) (mul-pos (zero-lt-suc n) h) (sym (neg_ℤ-neg_ℤ (pos a)) ∙ ap neg_ℤ e))
same_sign true a d (negsuc n) h e = refl

-- ---- each number has one sign and size with no − before a 0
abbrev pub Plain : Bool → ℕ → Type 0
Plain false a = Unit {0}
Plain true a = 0 < a

pub above : {a : ℕ} (s : Bool) → 0 < a → Plain s a
above false h = tt
above true h = h

pub data Plainly : ℤ → Type 0 where
  plainly : (s : Bool) (a : ℕ) → Plain s a → Plainly (signed s a)

pub plain : (z : ℤ) → Plainly z
plain (pos n) = plainly false n tt
plain (negsuc n) = plainly true (suc n) (zero-lt-suc n)

-- ---- differences of naturals
-- one that is not cut off
pub pos_minus : {m n : ℕ} → n ≤ m → pos m -ℤ pos n ≡ pos (m - n)
pos_minus {m} {n} h = ap (λ x. pos x -ℤ pos n) (sym (sub-add_cancel h)) ∙ +ℤ-neg_ℤ_cancel (pos (m - n)) (pos n)

-- the size of one
pub nat_abs_minus : (m n : ℕ) → nat_abs (pos m -ℤ pos n) ≡ (m - n) + (n - m)
nat_abs_minus m n = by_order (dec_le n m)
  where
    turned : neg_ℤ (pos n -ℤ pos m) ≡ pos m -ℤ pos n
    turned = simp (neg_ℤ-+ℤ, neg_ℤ-neg_ℤ) (+ℤ_comm (neg_ℤ (pos n)) (pos m))

    by_order : Dec (n ≤ m) → nat_abs (pos m -ℤ pos n) ≡ (m - n) + (n - m)
    by_order (yes h) = rw (pos_minus h) (omega arith)
    by_order (no f) =
        let h = le_of_lt (lt_of_not-le f) in
        rw (← turned, nat_abs_neg, pos_minus h) (omega arith)
