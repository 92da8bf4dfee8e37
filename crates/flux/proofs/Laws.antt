-- The flow numerator and the units moved keep the laws of a flux, on every road whose speeds are at most the divisor, at every scale, under every cap.
use mathlib.Core.Path.{◌≡◌, ◌∙◌, sym, ap}
use Prim.Native.Nat.{ℕ, ◌+◌, ◌-◌, ◌*◌, ◌≤◌, ◌<◌, min, max}
use native.Mathlib.Nat.{le_refl, le_trans, le_of_lt, lt_of_not-le, mul-add, mul-le-mul_left, mul-le-mul_right, mul-le-mul, mul_comm, one-mul, min-eq_left, min-eq_right, max-eq_left, max-eq_right}
use native.Mathlib.Decide.{dec_le}
use native.Mathlib.Omega.{arith}
use Rattle.road.specs.Judgement.{Accepted}
use Rattle.road.specs.declared.Road.{Road}
use Rattle.flux.specs.Face.{sending, receiving, numerator, units, scaled}
use Rattle.flux.specs.Law.{Law, Sound}
use Rattle.flux.proofs.Rounding.{units_monotone, units_shift, units_at_most}

-- what a cell sends and receives, below and above critical
module _ (r : Road) where
  pub sending_free : {a : ℕ} → a ≤ r.critical → sending r a ≡ r.free * a
  unfolding sending
  sending_free h = ap (λ x. r.free * x) (min-eq_left h)

  pub sending_full : {a : ℕ} → r.critical ≤ a → sending r a ≡ r.free * r.critical
  unfolding sending
  sending_full h = ap (λ x. r.free * x) (min-eq_right h)

  pub receiving_free : {b : ℕ} → b ≤ r.critical → receiving r b ≡ r.wave * (r.jam - r.critical)
  unfolding receiving
  receiving_free h = ap (λ x. r.wave * (r.jam - x)) (max-eq_right h)

  pub receiving_full : {b : ℕ} → r.critical ≤ b → receiving r b ≡ r.wave * (r.jam - b)
  unfolding receiving
  receiving_full h = ap (λ x. r.wave * (r.jam - x)) (max-eq_left h)

-- a product grows by at most m a unit where the factor is at most m
slope : {k m : ℕ} → k ≤ m → (x y g : ℕ) → x ≤ y + g → k * x ≤ k * y + m * g
slope {k} {m} h x y g e =
    let grown = mul-le-mul_left k e in
    let spread = mul-add k y g in
    let more = mul-le-mul_right g h in
    omega arith

module _ (r : Road) (sound : Sound r) where
  sending_monotone : (a a' : ℕ) → a ≤ a' → sending r a ≤ sending r a'
  unfolding sending
  sending_monotone a a' h = mul-le-mul_left r.free (omega arith)

  sending_slope : (o o' : ℕ) → o ≤ o' → sending r o' ≤ sending r o + r.divisor * (o' - o)
  unfolding sending
  sending_slope o o' h = slope sound.free_high (min o' r.critical) (min o r.critical) (o' - o) (omega arith)

  sending_at_most : (a : ℕ) → sending r a ≤ r.divisor * a
  unfolding sending
  sending_at_most a = mul-le-mul sound.free_high (omega arith)

  receiving_monotone : (b b' : ℕ) → b ≤ b' → receiving r b' ≤ receiving r b
  unfolding receiving
  receiving_monotone b b' h = mul-le-mul_left r.wave (omega arith)

  receiving_slope : (o o' : ℕ) → o ≤ o' → receiving r o ≤ receiving r o' + r.divisor * (o' - o)
  unfolding receiving
  receiving_slope o o' h =
      slope sound.wave_high (r.jam - max o r.critical) (r.jam - max o' r.critical) (o' - o) (omega arith)

  receiving_room : (b : ℕ) → receiving r b ≤ r.divisor * (r.jam - b)
  unfolding receiving
  receiving_room b = mul-le-mul sound.wave_high (omega arith)

  -- the flow numerator
  pub numerator_law : Law r.divisor r.jam r.critical (numerator r)
  unfolding numerator
  numerator_law = record {
    up = λ a a' b h. omega (arith, sending_monotone a a' h);
    down = λ a b b' h. omega (arith, receiving_monotone b b' h);
    send = λ a b. omega (arith, sending_at_most a);
    room = λ a b. omega (arith, receiving_room b);
    free_in = λ l o o' h k. ap (min (sending r l)) (receiving_free r (le_trans h k) ∙ sym (receiving_free r k));
    free_out = λ o o' d h k. omega (arith, sending_slope o o' h);
    full_out = λ o o' d k h. ap (λ s. min s (receiving r d)) (sending_full r k ∙ sym (sending_full r (le_trans k h)));
    full_in = λ l o o' k h. omega (arith, receiving_slope o o' h);
  }

-- the road at another scale is as sound
pub scaled_sound : (z : ℕ) {r : Road} → Sound r → Sound (scaled z r)
unfolding scaled
scaled_sound z s = record { free_high = s.free_high; wave_high = s.wave_high }

-- the flow numerator at every scale
pub scaled_law : (z : ℕ) (r : Road) → Sound r → Law r.divisor (z * r.jam) (z * r.critical) (numerator (scaled z r))
unfolding scaled
scaled_law z r s = numerator_law (scaled z r) (scaled_sound z s)

-- the whole units of a lawful flow are a lawful flow, a unit for a unit
pub units_law : (r : Road) → 0 < r.divisor → {j c : ℕ} (F : ℕ → ℕ → ℕ) → Law r.divisor j c F → Law 1 j c (λ a b. units r (F a b))
units_law r pos {j} {c} F law = record {
  up = λ a a' b h. units_monotone r pos (law.up a a' b h);
  down = λ a b b' h. units_monotone r pos (law.down a b b' h);
  send = λ a b. whole (F a b) a (law.send a b);
  room = λ a b. whole (F a b) (j - b) (law.room a b);
  free_in = λ l o o' h k. ap (units r) (law.free_in l o o' h k);
  free_out = λ o o' d h k. grown (F o' d) (F o d) (o' - o) (law.free_out o o' d h k);
  full_out = λ o o' d k h. ap (units r) (law.full_out o o' d k h);
  full_in = λ l o o' k h. grown (F l o) (F l o') (o' - o) (law.full_in l o o' k h);
}
  where
    whole : (f k : ℕ) → f ≤ r.divisor * k → units r f ≤ 1 * k
    whole f k h = rw one-mul (units_at_most r pos f k (rw (mul_comm r.divisor k) at h))

    grown : (f g k : ℕ) → f ≤ g + r.divisor * k → units r f ≤ units r g + 1 * k
    grown f g k h =
        rw (one-mul k, ← units_shift r pos g k)
        (units_monotone r pos (rw (mul_comm r.divisor k) at h))

-- no lawful flow is more than a cell at the critical density holds, whatever the densities beside it
pub at_most_critical : {m j c : ℕ} {F : ℕ → ℕ → ℕ} → Law m j c F → (a b : ℕ) → F a b ≤ m * c
at_most_critical {m} {c = c} {F = F} law a b = by (dec_le a c)
  where
    by : Dec (a ≤ c) → F a b ≤ m * c
    by (yes h) = le_trans (law.send a b) (mul-le-mul_left m h)
    by (no n) = omega (arith, law.full_out c a b (le_refl c) (le_of_lt (lt_of_not-le n)), law.send c b)

-- a cap keeps the laws: the smaller of a lawful flow and one number is a lawful flow
pub capped_law : {m j c : ℕ} {F : ℕ → ℕ → ℕ} → Law m j c F → (k : ℕ) → Law m j c (λ a b. min (F a b) k)
capped_law law k = record {
  up = λ a a' b h. omega (arith, law.up a a' b h);
  down = λ a b b' h. omega (arith, law.down a b b' h);
  send = λ a b. omega (arith, law.send a b);
  room = λ a b. omega (arith, law.room a b);
  free_in = λ l o o' h e. ap (λ x. min x k) (law.free_in l o o' h e);
  free_out = λ o o' d h e. omega (arith, law.free_out o o' d h e);
  full_out = λ o o' d e h. ap (λ x. min x k) (law.full_out o o' d e h);
  full_in = λ l o o' e h. omega (arith, law.full_in l o o' e h);
}

-- the units moved over a face of an accepted road
pub accepted_sound : {r : Road} → Accepted r → Sound r
accepted_sound a = record { free_high = a.free_high; wave_high = a.wave_high }

pub moved_law : (r : Road) → Accepted r → Law 1 r.jam r.critical (λ a b. units r (numerator r a b))
moved_law r a = units_law r a.divisor_low (numerator r) (numerator_law r (accepted_sound a))
