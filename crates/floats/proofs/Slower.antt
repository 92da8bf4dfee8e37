-- A product of a number not below 0 and a whole number, which is not at or above p: it is finite, not below 0, and below p.
use mathlib.Core.Path.{◌≡◌, ◌∙◌, refl, sym, ap}
use mathlib.Core.Bool.{Bool, true, false, true≢false, ◌||◌, cond}
use Prim.Native.Nat.{ℕ, zero, suc, ◌+◌, ◌*◌, ◌^◌, ◌≤◌, ◌<◌, zero-le}
use native.Mathlib.Nat.{zero-mul, mul-pos, mul_right_comm, eq_of_mul-eq-mul_right, zero-lt-suc, le_of_lt, lt_of_not-le, le_antisymm}
use native.Mathlib.Omega.{arith}
use borrow.Author.Tests.{eq-eqb, ne_eqb, ltb-false, le-ltb}
use lib.Dec.{ltb}
use lib.IntN.{ℤ, pos, pos-ne-negsuc}
use lib.Ieee.{Float, inf, fin, Format, prec, emax, low, up, down, odd, units, round, mul, level, lt, eq, le, of_int}
use lib.Ieee.Fits.{down_pos, round_is}
use lib.Ieee.Back.{round_whole}
use lib.Ieee.Scale.{round_same}
use Rattle.floats.specs.Worth.{signed, NotBelow0, not_below, SlowerThan, slower}
use Rattle.floats.proofs.Signs.{signed_size}
use Rattle.floats.proofs.Value.{Sized, sized, value→sized}
use Rattle.floats.proofs.Round.{of_int_worth}
use Rattle.floats.proofs.Order.{whole_lt, lt_inf}

-- what is not NaN and not −∞, nor below 0
data From0 : Float → Type 0 where
  number : {x : Float} → NotBelow0 x → From0 x
  beyond : From0 (inf false)

-- rounding keeps the sign: without a −, nothing below 0 comes out
odd_from_0 : (d q k l : ℕ) → From0 (odd d false q k l)
unfolding odd
odd_from_0 d zero k l = number (not_below refl)
odd_from_0 d (suc q) k l = number (not_below refl)

units_from_0 : (f : Format) (q k : ℕ) → From0 (units f false q k)
unfolding units
units_from_0 f q k = go (ltb (q * 2 ^ k) (2 ^ (low f + suc (emax f))))
  where
    go : (b : Bool) → From0 (cond b (odd (suc (prec f)) false q k (low f)) (inf false))
    go true = odd_from_0 (suc (prec f)) q k (low f)
    go false = beyond

round_from_0 : (f : Format) (a d : ℕ) → From0 (round f false a d)
round_from_0 f a d = rw (round_is f false a d) (units_from_0 f _ _)

-- and a 0 is rounded to a 0 of its sign
zero_from_0 : (f : Format) (d : ℕ) → 0 < d → From0 (round f true 0 d)
zero_from_0 f d h =
    rw (round_same f true 0 d 0 1 h (zero-lt-suc 0) (rw (zero-mul d) refl)) (go (value→sized (round_whole f true 0 zero-le)))
  where
    go : {x : Float} → Sized x true 0 → From0 x
    go (sized {m} {e} k) = number (not_below {a = 0} (ap (signed true) (k ∙ zero-mul (down e))))

pub below_none : {a : ℕ} (n : ℕ) → signed true n ≡ pos a → n ≡ 0
below_none zero q = refl
below_none {a} (suc n) q = absurd (pos-ne-negsuc a n (sym q))

product_from_0 : (f : Format) {x y : Float} {n : ℕ} → NotBelow0 x → Sized y false n → From0 (mul f x y)
unfolding mul
product_from_0 f (not_below {s = false} {e = e} h) (sized {m = n} {e = d} k) = round_from_0 f _ (down e * down d)
product_from_0 f (not_below {s = true} {m} {a} {e} h) (sized {m = n} {e = d} k) =
    rw (below_none (m * up e) h, zero-mul) (zero_from_0 f (down e * down d) (mul-pos (down_pos e) (down_pos d)))

-- a whole number beside a finite one of the same size, and of another
level_same : (s : Bool) (x y : ℕ) → x ≡ y → (s ≡ true → x ≡ 0) → level false x s y ≡ true
level_same false x y q z = rw (eq-eqb x y q) refl
level_same true x y q z = rw (eq-eqb x y q, eq-eqb x 0 (z refl)) refl

-- both sizes, over the product of their denominators
module _ (p n m a : ℕ) (s : Bool) (d e : ℤ) (k : n * up d ≡ p * down d) (h : signed s (m * up e) ≡ pos a) where
  size : m * up e ≡ a
  size = signed_size s h

  left_side : n * up d * down e ≡ p * down e * down d
  left_side = ap (λ (x : ℕ). x * down e) k ∙ mul_right_comm p (down d) (down e)

  right_side : m * up e * down d ≡ a * down d
  right_side = ap (λ (x : ℕ). x * down d) size

  eq_same : a ≡ p * down e → eq (fin false n d) (fin s m e) ≡ true
  unfolding eq
  eq_same q =
      let same : n * up d * down e ≡ m * up e * down d = left_side ∙ ap (λ (x : ℕ). x * down d) (sym q) ∙ sym right_side in
      level_same s (n * up d * down e) (m * up e * down d) same (λ t. same ∙ ap (λ (x : ℕ). x * down d) (none s t h) ∙ zero-mul (down d))
    where
      none : (t : Bool) → t ≡ true → signed t (m * up e) ≡ pos a → m * up e ≡ 0
      none true q h = below_none (m * up e) h
      none false q h = absurd (true≢false (sym q))

  eq_other : a < p * down e → eq (fin false n d) (fin s m e) ≡ false
  unfolding eq
  eq_other less =
      rw (ne_eqb (n * up d * down e) (m * up e * down d) (λ same.
      let equal = eq_of_mul-eq-mul_right (down d) (down_pos d) (p * down e) a (sym left_side ∙ same ∙ right_side) in
      omega arith)) refl

first_false : (a b : Bool) → (a || b) ≡ false → a ≡ false
first_false true b e = e
first_false false b e = refl

second_false : (a b : Bool) → (a || b) ≡ false → b ≡ false
second_false true b e = absurd (true≢false e)
second_false false b e = e

whole_sized : (f : Format) (n : ℕ) → n ≤ 2 ^ prec f → Sized (of_int f (pos n)) false n
unfolding of_int
whole_sized f n small = value→sized (round_whole f false n small)

module _ (f : Format) (p : ℕ) (small : p ≤ 2 ^ prec f) where
  eq_no : {y : Float} → Sized y false p → (m a : ℕ) (s : Bool) (e : ℤ) → signed s (m * up e) ≡ pos a → eq y (fin s m e) ≡ false → a ≡ p * down e → ⊥
  eq_no (sized {m = n} {e = d} k) m a s e h other q = true≢false (sym (eq_same p n m a s d e k h q) ∙ other)

  below_whole : {y : Float} → From0 y → le (of_int f (pos p)) y ≡ false → SlowerThan p y
  unfolding le
  below_whole beyond e = absurd (true≢false (sym (lt_inf false (of_int_worth f (pos p) small)) ∙ first_false _ _ e))
  below_whole (number (not_below {s} {m} {a} {e} h)) under =
      let most : a ≤ p * down e = ltb-false (p * down e) a (rw h at (sym (whole_lt s m e (of_int_worth f (pos p) small)) ∙ first_false _ _ under)) in
      let other : a ≡ p * down e → ⊥ = eq_no {y = of_int f (pos p)} (whole_sized f p small) m a s e h (second_false (lt (of_int f (pos p)) (fin s m e)) _ under) in
      let less : a < p * down e = lt_of_not-le (λ (back : p * down e ≤ a). other (le_antisymm most back)) in
      slower h less

  pub slower_of : {x : Float} (n : ℕ) → n ≤ 2 ^ prec f → NotBelow0 x → le (of_int f (pos p)) (mul f x (of_int f (pos n))) ≡ false → SlowerThan p (mul f x (of_int f (pos n)))
  slower_of n less given = below_whole (product_from_0 f given (whole_sized f n less))

  -- and the other way round
  eq_yes : {y : Float} → Sized y false p → (m a : ℕ) (s : Bool) (e : ℤ) → signed s (m * up e) ≡ pos a → a < p * down e → eq y (fin s m e) ≡ false
  eq_yes (sized {m = n} {e = d} k) m a s e h less = eq_other p n m a s d e k h less

  pub slower_passes : {y : Float} → SlowerThan p y → le (of_int f (pos p)) y ≡ false
  unfolding le
  slower_passes (slower {s} {m} {a} {e} h less) =
      let least : lt (of_int f (pos p)) (fin s m e) ≡ false = whole_lt s m e (of_int_worth f (pos p) small) ∙ rw h (le-ltb (p * down e) a (le_of_lt less)) in
      rw (least, eq_yes (whole_sized f p small) m a s e h less) refl
