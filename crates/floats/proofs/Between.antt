-- Rounding leaves what lies between two whole numbers between them: a fraction, a sum with a whole number, and a whole number's quotient.
use mathlib.Core.Path.{◌≡◌, ◌∙◌, refl, sym, ap}
use mathlib.Core.Bool.{Bool, true, false}
use Prim.Native.Nat.{ℕ, ◌+◌, ◌*◌, ◌^◌, ◌≤◌, ◌<◌}
use native.Mathlib.Nat.{le_trans, le_of_eq, le_of_lt, lt_of_lt_of_le, add-mul, zero-mul, mul-one, mul-pos, mul_assoc, mul_right_comm, mul-le-mul_right, mul-le-mul_left, le_of_mul-le-mul_right, zero-lt-suc}
use native.Mathlib.Omega.{arith}
use borrow.Author.Tests.{ne_eqb}
use lib.Dec.{T}
use lib.IntN.{ℤ, pos, nat_abs}
use lib.Ieee.{Float, nan, inf, fin, Format, prec, up, down, round, sum, add, div, le}
use lib.Ieee.Fits.{down_pos}
use lib.Ieee.Back.{round_whole}
use lib.Ieee.Order.{round_mono}
use lib.Ieee.Positive.{num, den, positive, positive_of_value, own_value, between, values_of_le, first_pos}
use Rattle.floats.specs.Worth.{signed, Worth, exactly, FiniteUpTo, finite, FiniteFrom, finite_from, SlowerThan, slower}
use Rattle.floats.proofs.Signs.{signed_size}
use Rattle.floats.proofs.Value.{Sized, sized}
use Rattle.floats.proofs.Terms.{alike, behind}
use Rattle.floats.proofs.Sum.{adds_sum}
use Rattle.floats.proofs.Slower.{below_none}

-- a float above 0, by the fraction that it is
from_fraction : {c j : ℕ} (x : Float) → T (positive x) → c * den x ≤ num x → num x ≤ j * den x → FiniteFrom c j x
from_fraction nan p low high = absurd p
from_fraction (inf s) p low high = absurd p
from_fraction (fin true m e) p low high = absurd p
from_fraction (fin false m e) p low high = finite_from refl low high

-- ---- a fraction
pub round_between : (f : Format) (c j a d : ℕ) → 1 ≤ c → j ≤ 2 ^ prec f → 0 < d → c * d ≤ a → a ≤ j * d → FiniteFrom c j (round f false a d)
round_between f c j a d some small D low high =
    let x = round f false a d in
    let least = round f false c 1 in
    let most = round f false j 1 in
    let order : c ≤ j = le_of_mul-le-mul_right (le_trans low high) D in
    let at_least_lem = round_whole f false c (le_trans order small) in
    let at_most = round_whole f false j small in
    let least_above = positive_of_value least c 1 at_least_lem some in
    let most-above = positive_of_value most j 1 at_most (le_trans some order) in
    let from : T (le least x) = round_mono f c 1 a d (zero-lt-suc 0) D (rw mul-one low) in
    let to : T (le x most) = round_mono f a d j 1 D (zero-lt-suc 0) (rw mul-one high) in
    let above : T (positive x) = between least x most least_above most-above from to in
    from_fraction x above
    (rw mul-one at (values_of_le least x c 1 (num x) (den x) least_above above at_least_lem (own_value x above) from))
    (rw mul-one at (values_of_le x most (num x) (den x) j 1 above most-above (own_value x above) at_most to))

-- a whole number above 0 has no −
above_sized : {x : Float} {n : ℕ} → 1 ≤ n → Worth x (pos n) → Sized x false n
above_sized some (exactly {s = false} h) = sized (ap nat_abs h)
above_sized {n} some (exactly {s = true} {m} {e} h) =
    let none : m * up e ≡ 0 = below_none (m * up e) h in
    let size : m * up e ≡ n * down e = signed_size true h in
    let above : 0 < n * down e = mul-pos some (down_pos e) in
    absurd (omega arith)

-- ---- a sum
-- a − before 0 changes no sum with a number above 0
sum_plain : (f : Format) (s : Bool) (n a d b c : ℕ) → signed s n ≡ pos a → 0 < b → sum f s (n * d) false b c ≡ round f false (n * d + b) c
sum_plain f false n a d b c h some = adds_sum f c alike
sum_plain f true n a d b c h some =
    let none : n * d ≡ 0 = ap (λ (z : ℕ). z * d) (below_none n h) ∙ zero-mul d in
    adds_sum f c (behind {s = true} {a = n * d} {b = b} {c = n * d + b} (omega arith) (omega arith))

pub sum_between : (f : Format) {p q : ℕ} {x y : Float} → 1 ≤ q → p + q ≤ 2 ^ prec f → FiniteUpTo p x → Worth y (pos q) → FiniteFrom q (p + q) (add f x y)
unfolding add
sum_between f {p} {q} some small given whole = go given (above_sized some whole)
  where
    go : {x y : Float} → FiniteUpTo p x → Sized y false q → FiniteFrom q (p + q) (add f x y)
    go (finite {s} {m} {a} {e} h most) (sized {m = n} {e = d} k) =
        let scale = down e * down d in
        let some-scale : 0 < scale = mul-pos (down_pos e) (down_pos d) in
        let second : n * up d * down e ≡ q * scale = ap (λ (z : ℕ). z * down e) k ∙ mul_right_comm q (down d) (down e) ∙ mul_assoc q (down e) (down d) in
        let first : m * up e * down d ≤ p * scale = le_trans (mul-le-mul_right (down d) (rw (signed_size s h) most)) (le_of_eq (mul_assoc p (down e) (down d))) in
        let above : 0 < q * scale = mul-pos some some-scale in
        let both = add-mul p q scale in
        rw (sum_plain f s (m * up e) a (down d) (n * up d * down e) scale h (omega arith))
        (round_between f q (p + q) (m * up e * down d + n * up d * down e) scale some small some-scale (omega arith) (omega arith))

-- ---- a quotient
-- a divisor above 0 is no 0 and has no −
div_plain : (f : Format) (m : ℕ) (e : ℤ) (t : Bool) (n b : ℕ) (d : ℤ) → signed t (n * up d) ≡ pos b → 0 < b
    → div f (fin false m e) (fin t n d) ≡ round f false (m * up e * down d) (n * up d * down e)
unfolding div
div_plain f m e true n b d h some =
    let none : n * up d ≡ 0 = below_none (n * up d) h in
    let same : n * up d ≡ b = signed_size true h in
    absurd (omega arith)
div_plain f m e false n b d h some =
    let above : 0 < n = first_pos n (up d) (rw (signed_size false h) some) in
    rw (ne_eqb n 0 (λ none. omega arith)) refl

pub quotient_between : (f : Format) {c j low high n : ℕ} {x y : Float} → 1 ≤ c → j ≤ 2 ^ prec f → 1 ≤ low → c * high ≤ n → n ≤ j * low
    → 1 ≤ n → Worth x (pos n) → FiniteFrom low high y → FiniteFrom c j (div f x y)
quotient_between f {c} {j} {low} {high} {n} some small divides least most above whole given = go (above_sized above whole) given
  where
    go : {x y : Float} → Sized x false n → FiniteFrom low high y → FiniteFrom c j (div f x y)
    go (sized {m} {e} k) (finite_from {s = t} {m = l} {a = b} {e = d} h from to) =
        let positive : 0 < b = lt_of_lt_of_le (mul-pos divides (down_pos d)) from in
        let top : m * up e * down d ≡ n * down d * down e = ap (λ (z : ℕ). z * down d) k ∙ mul_right_comm n (down e) (down d) in
        let under : c * b ≤ n * down d = le_trans (mul-le-mul_left c to) (le_trans (le_of_eq (sym (mul_assoc c high (down d)))) (mul-le-mul_right (down d) least)) in
        let over : n * down d ≤ j * b = le_trans (mul-le-mul_right (down d) most) (le_trans (le_of_eq (mul_assoc j low (down d))) (mul-le-mul_left j from)) in
        rw (div_plain f m e t l b d h positive, top, signed_size t h)
        (round_between f c j (n * down d * down e) (b * down e) some small (mul-pos positive (down_pos e))
        (le_trans (le_of_eq (sym (mul_assoc c b (down e)))) (mul-le-mul_right (down e) under))
        (le_trans (mul-le-mul_right (down e) over) (le_of_eq (mul_assoc j b (down e)))))

-- ---- in the words of the tests
pub slower_up_to : {p : ℕ} {x : Float} → SlowerThan p x → FiniteUpTo p x
slower_up_to (slower h less) = finite h (le_of_lt less)

pub from_up_to : {c j : ℕ} {x : Float} → FiniteFrom c j x → FiniteUpTo j x
from_up_to (finite_from h low high) = finite h high
