-- The sum of two floats that are whole numbers; and a sum with a whole number is never −0.
use mathlib.Core.Path.{◌≡◌, refl, sym, ap, ◌∙◌}
use mathlib.Core.Bool.{Bool, true, false, not, cond, beq, ◌&&◌, and-true, and-false}
use Prim.Native.Nat.{ℕ, zero, suc, ◌+◌, ◌-◌, ◌*◌, ◌%◌, ◌^◌, ◌≤◌, ◌<◌}
use native.Mathlib.Nat.{mul-pos, mul-one, mul_assoc, mul_right_comm, zero-lt-suc}
use native.Mathlib.Omega.{arith}
use borrow.Author.Tests.{lt-ltb, le-ltb}
use lib.Dec.{T, eqb, leb, ltb, eqb→eq, leb→le}
use lib.Pow.{pow_pos}
use lib.IntN.{ℤ, pos, negsuc, nat_abs, ◌+ℤ◌}
use lib.Ieee.{Float, nan, inf, fin, Format, prec, emax, low, up, down, round, sum, add, of_int, fits}
use lib.Ieee.Fits.{down_pos, and_l, and_r}
use lib.Ieee.Scale.{round_same}
use Rattle.floats.specs.Worth.{Worth}
use Rattle.floats.proofs.Signs.{Plain, Plainly, plainly, plain}
use Rattle.floats.proofs.Terms.{Adds, alike, behind, ahead, level, adds, adds_times, adds_signed, adds_plain}
use Rattle.floats.proofs.Value.{Sized, sized, Valued, valued, worth→value, over}
use Rattle.floats.proofs.Zero.{NotMinusZero, never, round_plain}
use Rattle.floats.proofs.Round.{Rounded, rounded, rounded_worth, round_sized, of_int_round}

-- ---- the library's choice among the cases, for any rounding R
abbrev picked : (Bool → ℕ → Float) → Bool → ℕ → Bool → ℕ → Float
picked R s a t b = cond (beq s t) (R s (a + b)) (cond (ltb a b) (R t (b - a)) (R (s && ltb b a) (a - b)))

module _ (R : Bool → ℕ → Float) where
  same : (s : Bool) (a b : ℕ) → picked R s a s b ≡ R s (a + b)
  same false a b = refl
  same true a b = refl

  opposed : (s : Bool) (a b : ℕ) → picked R s a (not s) b ≡ cond (ltb a b) (R (not s) (b - a)) (R (s && ltb b a) (a - b))
  opposed false a b = refl
  opposed true a b = refl

  adds_picked : {s t u : Bool} {a b c : ℕ} → Adds s a t b u c → picked R s a t b ≡ R u c
  adds_picked (alike {s} {a} {b}) = same s a b
  adds_picked (behind {s} {a} {b} e h) = opposed s a b ∙ rw (lt-ltb a b (omega arith)) (ap (R (not s)) (omega arith))
  adds_picked (ahead {s} {a} {b} e h) =
      opposed s a b ∙ rw (le-ltb a b (omega arith), lt-ltb b a (omega arith), and-true s) (ap (R s) (omega arith))
  adds_picked (level {s} {a} {b} e) =
      opposed s a b ∙ rw (le-ltb a b (omega arith), le-ltb b a (omega arith), and-false s) (ap (R false) (omega arith))

sum_picks : (f : Format) (s : Bool) (a : ℕ) (t : Bool) (b d : ℕ) → sum f s a t b d ≡ picked (λ (u : Bool) (c : ℕ). round f u c d) s a t b
unfolding sum
sum_picks f s a t b d = refl

pub adds_sum : (f : Format) (d : ℕ) {s t u : Bool} {a b c : ℕ} → Adds s a t b u c → sum f s a t b d ≡ round f u c d
adds_sum f d {s} {t} {a} {b} h = sum_picks f s a t b d ∙ adds_picked (λ u c. round f u c d) h

sum_times : (f : Format) (s : Bool) (a : ℕ) (t : Bool) (b d : ℕ) → 0 < d → sum f s (a * d) t (b * d) d ≡ sum f s a t b 1
sum_times f s a t b d p =
    let (u, c, g) = adds s a t b in
    adds_sum f d (adds_times d p g) ∙ round_same f u (c * d) d c 1 p (zero-lt-suc 0) (mul-one (c * d)) ∙ sym (adds_sum f 1 g)

-- ---- the sum of two floats
pub add_sum : (f : Format) {x y : Float} {s t : Bool} {a b : ℕ} → Sized x s a → Sized y t b → add f x y ≡ sum f s a t b 1
unfolding add
add_sum f (sized {s} {e} {a} h) (sized {s = t} {e = d} {a = b} k) =
    let c = down e * down d in
    over (λ (p q : ℕ). sum f s p t q c) a (down e) b (down d) h k
    ∙ sum_times f s a t b c (mul-pos (down_pos e) (down_pos d))

add_rounded : (f : Format) {x y : Float} {z w : ℤ} → Valued x z → Valued y w → Rounded f (z +ℤ w) (add f x y)
add_rounded f (valued {s} {a} h) (valued {s = t} {a = b} k) =
    let (u, c, g) = adds s a t b in
    rw (add_sum f h k, adds_sum f 1 g, ← adds_signed g) (rounded u c)

pub add_worth : (f : Format) {x y : Float} {z w : ℤ} → Worth x z → Worth y w → nat_abs (z +ℤ w) ≤ 2 ^ prec f
    → Worth (add f x y) (z +ℤ w)
add_worth f h k l = rounded_worth (add_rounded f (worth→value h) (worth→value k)) l

-- an added integer leaves the integer of the whole sum, with its sign of zero
pub add_of_int : (f : Format) {x : Float} {z : ℤ} (k : ℤ) → Worth x z → nat_abs k ≤ 2 ^ prec f → add f x (of_int f k) ≡ of_int f (z +ℤ k)
add_of_int f k h l = go (worth→value h) (plain k) l
  where
    go : {x : Float} {z k : ℤ} → Valued x z → Plainly k → nat_abs k ≤ 2 ^ prec f → add f x (of_int f k) ≡ of_int f (z +ℤ k)
    go (valued {s} {a} h) (plainly t b p) l =
        let (u, c, g) = adds s a t b in
        rw (of_int_round f t b p, add_sum f h (round_sized f t b l), adds_sum f 1 g, ← adds_signed g)
        (sym (of_int_round f u c (adds_plain g p)))

-- ---- the sign of a sum that is 0
-- a float of the format is a multiple of its smallest value
exponent_low : (f : Format) (s : Bool) (m : ℕ) (e : ℤ) → T (fits f (fin s m e)) → down e ≤ 2 ^ low f
unfolding fits
exponent_low f s m (pos k) h = pow_pos (low f)
exponent_low f s zero (negsuc k) h = let one = eqb→eq (1 * down (negsuc k)) 1 h in omega (arith, pow_pos (low f))
exponent_low f s (suc m) (negsuc k) h =
    let d = down (negsuc k) in
    let kept = eqb (suc m % 2) 1 && ltb (suc m) (2 ^ prec f) in
    leb→le d (2 ^ low f) (and_r kept (leb d (2 ^ low f)) (and_l (kept && leb d (2 ^ low f)) (ltb (suc m * 1) (2 ^ suc (emax f) * d)) h))

plain_times : (t : Bool) (b d : ℕ) → 0 < d → Plain t b → Plain t (b * d)
plain_times false b d h p = tt
plain_times true b d h p = mul-pos p h

-- x plus a whole number without a − before 0: exactly 0 is +0, and any other sum is at least the format's smallest value
add_sized : (f : Format) (x : Float) {y : Float} {t : Bool} {b : ℕ} → T (fits f x) → Sized y t b → Plain t b → NotMinusZero (add f x y)
unfolding add
add_sized f nan h (sized k) p = tt
add_sized f (inf s) h (sized k) p = tt
add_sized f (fin s m e) h (sized {s = t} {m = n} {e = d} {a = b} k) p =
    let (u, c, g) = adds s (m * up e) t (b * down e) in
    let some = mul-pos (down_pos e) (down_pos d) in
    let same : sum f s (m * up e * down d) t (n * up d * down e) (down e * down d) ≡ round f u c (down e) =
    ap (λ (q : ℕ). sum f s (m * up e * down d) t q (down e * down d)) (ap (λ (q : ℕ). q * down e) k ∙ mul_right_comm b (down d) (down e))
    ∙ adds_sum f (down e * down d) (adds_times (down d) (down_pos d) g)
    ∙ round_same f u (c * down d) (down e * down d) c (down e) some (down_pos e) (mul_right_comm c (down d) (down e) ∙ mul_assoc c (down e) (down d)) in
    rw same (round_plain f c (down e) (down_pos e) (exponent_low f s m e h) u (adds_plain g (plain_times t b (down e) (down_pos e) p)))

-- so a float of the format plus an integer is never −0
pub add_plain : (f : Format) (x : Float) (k : ℤ) → T (fits f x) → nat_abs k ≤ 2 ^ prec f → (e : ℤ) → add f x (of_int f k) ≡ fin true 0 e → ⊥
add_plain f x k h l = never (go (plain k) l)
  where
    go : {k : ℤ} → Plainly k → nat_abs k ≤ 2 ^ prec f → NotMinusZero (add f x (of_int f k))
    go (plainly t b p) l = rw (of_int_round f t b p) (add_sized f x h (round_sized f t b l) p)
