-- The tests of a number that is given: it passes them exactly when it is a finite number not below 0, and with the test of zero exactly when it is above 0.
use mathlib.Core.Path.{◌≡◌, ◌∙◌, refl, sym, ap}
use mathlib.Core.Bool.{Bool, true, false, true≢false, ◌&&◌, ◌||◌, beq}
use Prim.Native.Nat.{ℕ, ◌*◌, zero-le}
use native.Mathlib.Nat.{zero-mul, mul-one, lt_of_not-le}
use native.Mathlib.Omega.{arith}
use borrow.Author.Tests.{le-ltb, eqb-false, ne_eqb}
use lib.Dec.{eqb}
use lib.IntN.{ℤ, pos, negsuc}
use lib.Signed.{lt_z}
use lib.Ieee.{Float, nan, inf, fin, Format, up, down, lt, eq, ne, of_bits}
use Rattle.floats.specs.Worth.{signed, NotBelow0, not_below, Above0, above}
use Rattle.floats.proofs.Signs.{signed_size}
use Rattle.floats.proofs.Round.{zero_is, zero_worth}
use Rattle.floats.proofs.Order.{lt_whole, inf_lt}
use Rattle.floats.proofs.Within.{finite_known}

whole_of : (z : ℤ) → lt_z z (pos 0) ≡ false → (n : ℕ) × (z ≡ pos n)
whole_of (pos n) low = (n, refl)
whole_of (negsuc n) low = absurd (true≢false low)

pub not_below_of : (f : Format) (x : Float) → ne x x ≡ false → lt x (of_bits f 0) ≡ false → eq x (inf false) ≡ false → NotBelow0 x
unfolding ne eq
not_below_of f nan known low finite = absurd (true≢false known)
not_below_of f (inf true) known low finite = absurd (true≢false (sym (inf_lt true (zero_worth f)) ∙ low))
not_below_of f (inf false) known low finite = absurd (true≢false finite)
not_below_of f (fin s m e) known low finite =
    let least : lt_z (signed s (m * up e)) (pos 0) ≡ false = rw (← zero-mul (down e)) (sym (lt_whole s m e (zero_worth f)) ∙ low) in
    let (a, h) = whole_of (signed s (m * up e)) least in
    not_below h

-- and the other way round
pub given_known : {x : Float} → NotBelow0 x → ne x x ≡ false
given_known (not_below {s} {m} {e = e} h) = finite_known s m e

pub given_low : (f : Format) {x : Float} → NotBelow0 x → lt x (of_bits f 0) ≡ false
given_low f (not_below {s} {m} {a} {e} h) = lt_whole s m e (zero_worth f) ∙ rw (h, zero-mul) (le-ltb a 0 zero-le)

pub given_finite : {x : Float} → NotBelow0 x → eq x (inf false) ≡ false
unfolding eq
given_finite (not_below h) = refl

-- the test of zero
either_way : (a c : Bool) → (a && (c || a)) ≡ a
either_way true true = refl
either_way true false = refl
either_way false c = refl

eq_zero : (f : Format) (s : Bool) (m : ℕ) (e : ℤ) → eq (fin s m e) (of_bits f 0) ≡ eqb (m * up e) 0
unfolding eq
eq_zero f s m e = ap (eq (fin s m e)) (zero_is f) ∙ rw (mul-one (m * up e), zero-mul (down e)) (either_way (eqb (m * up e) 0) (beq s false))

pub above_of : (f : Format) {x : Float} → NotBelow0 x → eq x (of_bits f 0) ≡ false → Above0 x
above_of f (not_below {s} {m} {a} {e} h) other =
    let some : m * up e ≡ 0 → ⊥ = eqb-false (m * up e) 0 (sym (eq_zero f s m e) ∙ other) in
    let size : m * up e ≡ a = signed_size s h in
    above h (lt_of_not-le (λ none. some (omega arith)))

pub above_given : {x : Float} → Above0 x → NotBelow0 x
above_given (above h some) = not_below h

pub above_other : (f : Format) {x : Float} → Above0 x → eq x (of_bits f 0) ≡ false
above_other f (above {s} {m} {a} {e} h some) =
    let size : m * up e ≡ a = signed_size s h in
    eq_zero f s m e ∙ ne_eqb (m * up e) 0 (λ none. omega arith)
