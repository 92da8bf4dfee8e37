-- Tests joined: what a joined test says of its parts. And what a test adds to a count.
use mathlib.Core.Path.{◌≡◌, refl}
use mathlib.Core.Bool.{Bool, true, false, true≢false, false≢true}
use Prim.Native.Nat.{ℕ, ◌≤◌}
use native.Mathlib.Omega.{arith}
use lib.Dec.{T}
use Rattle.choice.specs.Choice.{pick, or, both}

-- two tests of which neither holds
pub or_left : (a b : Bool) → or a b ≡ false → a ≡ false
or_left true b e = e
or_left false b e = refl

pub or_right : (a b : Bool) → or a b ≡ false → b ≡ false
or_right true b e = absurd (true≢false e)
or_right false b e = e

pub neither : (a b : Bool) → a ≡ false → b ≡ false → or a b ≡ false
neither a b p q = simp (p, q)

-- two tests that hold together
pub both_left : (a b : Bool) → T (both a b) → T a
both_left true b t = tt
both_left false b t = t

pub both_right : (a b : Bool) → T (both a b) → T b
both_right true b t = t
both_right false b t = absurd t

pub both_first : (a b : Bool) → both a b ≡ true → a ≡ true
both_first true b e = refl
both_first false b e = absurd (false≢true e)

pub both_second : (a b : Bool) → both a b ≡ true → b ≡ true
both_second true b e = e
both_second false b e = absurd (false≢true e)

-- a test beside one that is known
pub both_true : (a : Bool) → both a true ≡ a
both_true true = refl
both_true false = refl

pub both_false : (a : Bool) → both a false ≡ false
both_false true = refl
both_false false = refl

-- a count grows by one at most
pub one_at_most : (b : Bool) → pick {A = ℕ} b 1 0 ≤ 1
one_at_most true = omega arith
one_at_most false = omega arith
