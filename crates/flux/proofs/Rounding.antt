-- The units are the nearest whole number; the four laws of `units`, and what follows from them. Of all laws only `units_nearest` opens the division.
use mathlib.Core.Path.{◌≡◌, ◌∙◌, ap}
use Prim.Native.Nat.{ℕ, ◌+◌, ◌*◌, ◌/◌, ◌≤◌, ◌<◌, min}
use native.Mathlib.Nat.{le_refl, le_antisymm, lt_of_le_of_lt, lt_of_mul-lt-mul_left, zero-add, div-mul-le_self, lt-div-mul-add, min-eq_left, min-eq_right, le_of_lt, lt_of_not-le}
use native.Mathlib.Decide.{dec_le}
use native.Mathlib.Omega.{arith}
use Rattle.road.specs.declared.Road.{Road}
use Rattle.flux.specs.Face.{units, NearestUnits}

-- q is a divided by b, rounded down
pub record Quotient (a b q : ℕ) : Type 0 where
  pub low : q * b ≤ a
  pub high : a < q * b + b

pub quotient : {a b : ℕ} → 0 < b → Quotient a b (a / b)
quotient {a} {b} positive = record { low = div-mul-le_self a b; high = lt-div-mul-add positive }

-- a larger number has no smaller nearest one
nearest_monotone : {d f g u v : ℕ} → f ≤ g → NearestUnits d f u → NearestUnits d g v → u ≤ v
nearest_monotone {d} {f} {g} {u} {v} h one other =
    let twice : 2 * f + d < 2 * d * (v + 1) = let high = other.high in omega arith in
    let below = lt_of_mul-lt-mul_left (2 * d) (lt_of_le_of_lt one.low twice) in
    omega arith

-- there is one nearest whole number, halves included
pub nearest_once : {d f u v : ℕ} → NearestUnits d f u → NearestUnits d f v → u ≡ v
nearest_once {d} {f} one other = le_antisymm (nearest_monotone (le_refl f) one other) (nearest_monotone (le_refl f) other one)

module _ (r : Road) (positive : 0 < r.divisor) where
  -- the units are the nearest whole number to the numerator over the divisor
  pub units_nearest : (f : ℕ) → NearestUnits r.divisor f (units r f)
  unfolding units
  units_nearest f =
      let whole : Quotient _ _ (units r f) = quotient (omega arith) in
      record { low = omega arith; high = omega arith }

  -- a multiple of the divisor passes through whole
  pub units_shift : (f k : ℕ) → units r (f + k * r.divisor) ≡ units r f + k
  units_shift f k =
      let nearest = units_nearest f in
      nearest_once (units_nearest (f + k * r.divisor)) (record { low = omega arith; high = omega arith })

  -- a larger numerator moves no fewer units
  pub units_monotone : {f g : ℕ} → f ≤ g → units r f ≤ units r g
  units_monotone {f} {g} h = nearest_monotone h (units_nearest f) (units_nearest g)

  pub units_zero : units r 0 ≡ 0
  units_zero = nearest_once (units_nearest 0) (record { low = omega arith; high = omega arith })

  -- two rounding errors differ by less than the divisor
  pub units_spread : (f g : ℕ) → f + units r g * r.divisor < g + units r f * r.divisor + r.divisor
  units_spread f g =
      let one = units_nearest f in
      let other = units_nearest g in
      omega arith

  -- from these four alone:
  pub units_exact : (k : ℕ) → units r (k * r.divisor) ≡ k
  units_exact k = ap (units r) (omega arith) ∙ units_shift 0 k ∙ rw units_zero (zero-add k)

  pub units_at_most : (f k : ℕ) → f ≤ k * r.divisor → units r f ≤ k
  units_at_most f k h = rw (units_exact k) at (units_monotone h)

  pub units_min : (f g : ℕ) → units r (min f g) ≡ min (units r f) (units r g)
  units_min f g = by_order (dec_le f g)
    where
      by_order : Dec (f ≤ g) → units r (min f g) ≡ min (units r f) (units r g)
      by_order (yes h) = let m = units_monotone h in rw (min-eq_left h) (omega arith)
      by_order (no n) = let h = le_of_lt (lt_of_not-le n) in let m = units_monotone h in rw (min-eq_right h) (omega arith)

  -- a cap of k units on the flow is a cap of k on the units
  pub units_cap : (f k : ℕ) → units r (min f (k * r.divisor)) ≡ min (units r f) k
  units_cap f k = units_min f (k * r.divisor) ∙ ap (min (units r f)) (units_exact k)

  -- half the divisor added first, then rounded down: an odd divisor loses nothing, since 2 × f is even
  pub units_half : (f : ℕ) → units r f ≡ (f + r.divisor / 2) / r.divisor
  units_half f =
      let whole = quotient {a = f + r.divisor / 2} positive in
      nearest_once (units_nearest f) (record { low = omega arith; high = omega arith })
