-- The flow numerator is homogeneous: k times the densities, jam and critical give k times the flow.
use mathlib.Core.Path.{◌≡◌, ◌∙◌, sym, ap}
use Prim.Native.Nat.{ℕ, ◌-◌, ◌*◌, ◌≤◌, min, max}
use native.Mathlib.Nat.{mul_assoc, mul_left_comm, mul-sub, mul-le-mul_left, min-eq_left, min-eq_right, max-eq_left, max-eq_right, le_of_lt, lt_of_not-le, one-mul}
use native.Mathlib.Decide.{dec_le}
use Rattle.road.specs.declared.Road.{Road}
use Rattle.flux.specs.Face.{sending, receiving, numerator, scaled}

-- a common factor leaves the minimum and the maximum
pub min_times : (k x y : ℕ) → min (k * x) (k * y) ≡ k * min x y
min_times k x y = by_order (dec_le x y)
  where
    by_order : Dec (x ≤ y) → min (k * x) (k * y) ≡ k * min x y
    by_order (yes h) = rw (min-eq_left h) (min-eq_left (mul-le-mul_left k h))
    by_order (no n) = rw (min-eq_right (le_of_lt (lt_of_not-le n))) (min-eq_right (mul-le-mul_left k (le_of_lt (lt_of_not-le n))))

max_times : (k x y : ℕ) → max (k * x) (k * y) ≡ k * max x y
max_times k x y = by_order (dec_le x y)
  where
    by_order : Dec (x ≤ y) → max (k * x) (k * y) ≡ k * max x y
    by_order (yes h) = rw (max-eq_right h) (max-eq_right (mul-le-mul_left k h))
    by_order (no n) = rw (max-eq_left (le_of_lt (lt_of_not-le n))) (max-eq_left (mul-le-mul_left k (le_of_lt (lt_of_not-le n))))

sending_times : (k : ℕ) (r : Road) (a : ℕ) → sending (scaled k r) (k * a) ≡ k * sending r a
unfolding sending scaled
sending_times k r a = ap (λ x. r.free * x) (min_times k a r.critical) ∙ mul_left_comm r.free k (min a r.critical)

receiving_times : (k : ℕ) (r : Road) (b : ℕ) → receiving (scaled k r) (k * b) ≡ k * receiving r b
unfolding receiving scaled
receiving_times k r b =
    ap (λ x. r.wave * (k * r.jam - x)) (max_times k b r.critical)
    ∙ ap (λ x. r.wave * x) (sym (mul-sub k r.jam (max b r.critical)))
    ∙ mul_left_comm r.wave k (r.jam - max b r.critical)

numerator_times : (k : ℕ) (r : Road) (a b : ℕ) → numerator (scaled k r) (k * a) (k * b) ≡ k * numerator r a b
unfolding numerator
numerator_times k r a b = rw (sending_times k r a, receiving_times k r b) (min_times k (sending r a) (receiving r b))

scaled_scaled : (k z : ℕ) (r : Road) → scaled (k * z) r ≡ scaled k (scaled z r)
unfolding scaled
scaled_scaled k z r = rw (mul_assoc k z r.jam, mul_assoc k z r.critical)

-- at every scale
pub homogeneous : (k z : ℕ) (r : Road) (a b : ℕ) → numerator (scaled (k * z) r) (k * a) (k * b) ≡ k * numerator (scaled z r) a b
homogeneous k z r a b = rw (scaled_scaled k z r) (numerator_times k (scaled z r) a b)

-- scale 1 is the road itself
pub scaled_one : (r : Road) → scaled 1 r ≡ r
unfolding scaled
scaled_one r = rw (one-mul r.jam, one-mul r.critical)
