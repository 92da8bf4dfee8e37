-- A speed times a density fits 32 bits on every accepted road.
use Prim.Native.Nat.{ℕ, ◌*◌, ◌≤◌}
use native.Mathlib.Nat.{le_trans, lt_of_le_of_lt, mul-le-mul}
use lib.Dec.{lit<}
use mir.Syntax.{w32}
use mir.Val.{Fits}
use Rattle.road.specs.Judgement.{Accepted}
use Rattle.road.specs.declared.Road.{Road}

pub product_fits : {r : Road} → Accepted r → (speed x : ℕ) → speed ≤ r.divisor → x ≤ r.jam → Fits w32 (speed * x)
product_fits a speed x s h =
    record { fits = lt_of_le_of_lt (mul-le-mul (le_trans s a.divisor_high) (le_trans h a.jam_high)) (lit< tt) }
