-- Division by a multiplier and a shift: the factors of a road give the units of every density.
use mathlib.Core.Path.{◌≡◌, ◌∙◌, sym, ap}
use mathlib.Core.Bool.{Bool}
use mathlib.Core.Logic.{◌⊎◌, inl, inr}
use Prim.Native.Nat.{ℕ, ◌+◌, ◌-◌, ◌*◌, ◌/◌, ◌^◌, ◌≤◌, ◌<◌, min, max}
use native.Mathlib.Nat.{mul_comm, le_trans, mul-le-mul, mul-le-mul_left, mul-le-mul_right, le_of_mul-le-mul_right, lt_of_mul-lt-mul_right, div-eq_of_lt-le, div-lt_iff_lt-mul, le_of_lt, le_of_eq, eq-or-lt_of_le}
use native.Mathlib.Omega.{arith}
use lib.Dec.{lit<, lit≤}
use borrow.Author.Tests.{lt-ltb, le-ltb}
use mir.Syntax.{w32}
use mir.Val.{Fits}
use Rattle.choice.specs.Choice.{pick}
use Rattle.road.specs.Ceilings.{divisor_ceiling, jam_ceiling}
use Rattle.road.specs.Judgement.{Accepted}
use Rattle.road.specs.declared.Road.{Road}
use Rattle.flux.specs.Face.{sending, receiving, numerator, units}
use Rattle.flux.specs.Factor.{multiplier, slow_factor, whole_factor, factor_of, part}
use Rattle.flux.specs.declared.factor.Factor.{Factor}
use Rattle.flux.specs.declared.pace.Pace.{Pace}
use Rattle.flux.proofs.Rounding.{Quotient, quotient, units_half, units_exact, units_at_most, units_min}
use Rattle.flux.proofs.Scaling.{min_times}

-- a quotient over b of x, rounded up to whole parts of 1/d
pub record Up (x b d up : ℕ) : Type 0 where
  pub enough : x * b ≤ up * d
  pub least : up * d < x * b + d

-- with p/d and h/d rounded up over b, a × p + h divided by d is read off the product, where b holds more than a + 1 errors.
-- Any h serves, so that another rounding of the flow costs no other law
pub by_multiplier : (d b a p h m e : ℕ) → 0 < d → (a + 1) * d ≤ b → Up p b d m → Up h b d e → (a * p + h) / d ≡ (a * m + e) / b
by_multiplier d b a p h m e pos wide M H = sym (div-eq_of_lt-le b low high)
  where
    whole : Quotient (a * p + h) d ((a * p + h) / d)
    whole = quotient pos

    low : (a * p + h) / d * b ≤ a * m + e
    low =
        le_of_mul-le-mul_right
        (let s = mul-le-mul_right b whole.low in
        let t = mul-le-mul_left a M.enough in
        let u = H.enough in
        omega arith)
        pos

    high : a * m + e < ((a * p + h) / d + 1) * b
    high =
        lt_of_mul-lt-mul_right d
        (let s = mul-le-mul_right b whole.high in
        let t = mul-le-mul_left a M.least in
        let u = H.least in
        let w = wide in
        omega arith)

-- dividing with the divisor less one added rounds up
rounded_up : (x d : ℕ) → 0 < d → Up x (2 ^ 32) d (multiplier x d)
unfolding multiplier
rounded_up x d pos =
    let whole : Quotient _ _ (multiplier x d) = quotient pos in
    record { enough = omega arith; least = omega arith }

-- the multiplier of a fraction below one fits 32 bits
pub multiplier_fits : (x d : ℕ) → d ≤ divisor_ceiling → x < d → Fits w32 ((x * 2 ^ 32 + (d - 1)) / d)
multiplier_fits x d high h = let pos : 0 < d = omega arith in record { fits = (div-lt_iff_lt-mul pos).1 (omega arith) }

-- the two cases of a factor
pub factor_slow : (speed d : ℕ) → speed < d → factor_of speed d ≡ slow_factor speed d
unfolding factor_of
factor_slow speed d h = ap (λ (b : Bool). pick b (slow_factor speed d) whole_factor) (lt-ltb speed d h)

pub factor_whole : (speed d : ℕ) → d ≤ speed → factor_of speed d ≡ whole_factor
unfolding factor_of
factor_whole speed d h = ap (λ (b : Bool). pick b (slow_factor speed d) whole_factor) (le-ltb speed d h)

-- the whole density
whole_part : (a : ℕ) → a ≤ jam_ceiling → part whole_factor a ≡ a
unfolding part whole_factor
whole_part a h = div-eq_of_lt-le (2 ^ 32) (omega arith) (omega arith)

module _ (r : Road) (ok : Accepted r) where
  slow_part : (speed a : ℕ) → speed < r.divisor → a ≤ jam_ceiling → part (slow_factor speed r.divisor) a ≡ units r (speed * a)
  unfolding part slow_factor
  slow_part speed a s h =
      let wide : (a + 1) * r.divisor ≤ 2 ^ 32 =
      let n : a + 1 ≤ jam_ceiling + 1 = omega arith in
      le_trans (mul-le-mul n ok.divisor_high) (lit≤ tt)
      in
      let read = by_multiplier r.divisor (2 ^ 32) a speed (r.divisor / 2) (multiplier speed r.divisor) (multiplier (r.divisor / 2) r.divisor) ok.divisor_low wide
      (rounded_up speed r.divisor ok.divisor_low)
      (rounded_up (r.divisor / 2) r.divisor ok.divisor_low)
      in
      sym read ∙ ap (λ (x : ℕ). x / r.divisor) (omega arith) ∙ sym (units_half r ok.divisor_low (speed * a))

  full_part : (speed a : ℕ) → speed ≡ r.divisor → a ≤ jam_ceiling → part whole_factor a ≡ units r (speed * a)
  full_part speed a s h =
      whole_part a h ∙ sym (units_exact r ok.divisor_low a) ∙ ap (units r) (mul_comm a r.divisor ∙ ap (λ (x : ℕ). x * a) (sym s))

  -- the factor of a speed gives the units of speed × density
  pub factor_part : (speed a : ℕ) → speed ≤ r.divisor → a ≤ jam_ceiling → part (factor_of speed r.divisor) a ≡ units r (speed * a)
  factor_part speed a s h = by_speed (eq-or-lt_of_le s)
    where
      by_speed : (speed ≡ r.divisor) ⊎ (speed < r.divisor) → part (factor_of speed r.divisor) a ≡ units r (speed * a)
      by_speed (inl e) = rw (factor_whole speed r.divisor (le_of_eq (sym e))) (full_part speed a e h)
      by_speed (inr l) = rw (factor_slow speed r.divisor l) (slow_part speed a l h)

  -- a part is no more than its density
  pub part_small : (speed a : ℕ) → speed ≤ r.divisor → units r (speed * a) ≤ a
  part_small speed a s = units_at_most r ok.divisor_low (speed * a) a (let g = mul-le-mul_right a s in omega arith)

  -- the flow numerator is the least of three products, with no clamp on the densities
  numerator_least : (a b : ℕ) → numerator r a b ≡ min (min (r.free * a) (r.wave * (r.jam - b))) (r.free * r.critical)
  unfolding numerator sending receiving
  numerator_least a b =
      let sent = min_times r.free a r.critical in
      let room : r.jam - max b r.critical ≡ min (r.jam - b) (r.jam - r.critical) = omega arith in
      let received = ap (λ (x : ℕ). r.wave * x) room ∙ sym (min_times r.wave (r.jam - b) (r.jam - r.critical)) in
      let same = ok.balance in
      omega arith

  -- the units of a face are the least of what is sent, what is received and the capacity
  pub least_of_three : (a b : ℕ) → units r (numerator r a b) ≡ min (min (units r (r.free * a)) (units r (r.wave * (r.jam - b)))) (units r (r.free * r.critical))
  least_of_three a b =
      let pos = ok.divisor_low in
      ap (units r) (numerator_least a b)
      ∙ units_min r pos (min (r.free * a) (r.wave * (r.jam - b))) (r.free * r.critical)
      ∙ ap (λ (x : ℕ). min x (units r (r.free * r.critical))) (units_min r pos (r.free * a) (r.wave * (r.jam - b)))

-- a product by a 32-bit multiplier with a 32-bit offset
pub product_small : (a m e : ℕ) → a ≤ jam_ceiling → m < 2 ^ 32 → e < 2 ^ 32 → a * m + e < (jam_ceiling + 1) * 2 ^ 32
product_small a m e h k l = let product = mul-le-mul h (le_of_lt k) in omega arith

-- its upper half fits 32 bits
pub upper_half_fits : (a m e : ℕ) → a ≤ jam_ceiling → m < 2 ^ 32 → e < 2 ^ 32 → Fits w32 ((a * m + e) / 2 ^ 32)
upper_half_fits a m e h k l =
    let small = product_small a m e h k l in
    record { fits = (div-lt_iff_lt-mul (lit< tt)).1 (omega arith) }

-- what a road's pace gives
module _ (p : Pace) where
  abbrev r : Road
  r = p.road.road

  ok : Accepted r
  ok = p.road.accepted

  pub send_part : (a : ℕ) → a ≤ jam_ceiling → part p.send a ≡ units r (r.free * a)
  send_part a h = ap (λ (f : Factor). part f a) p.made.send ∙ factor_part r ok r.free a ok.free_high h

  pub receive_part : (b : ℕ) → b ≤ jam_ceiling → part p.receive b ≡ units r (r.wave * b)
  receive_part b h = ap (λ (f : Factor). part f b) p.made.receive ∙ factor_part r ok r.wave b ok.wave_high h

  -- each is below 2^31
  pub send_small : (a : ℕ) → a ≤ jam_ceiling → part p.send a < 2 ^ 31
  send_small a h =
      let small = part_small r ok r.free a ok.free_high in
      let same = send_part a h in
      omega arith

  pub receive_small : (b : ℕ) → b ≤ jam_ceiling → part p.receive b < 2 ^ 31
  receive_small b h =
      let small = part_small r ok r.wave b ok.wave_high in
      let same = receive_part b h in
      omega arith

  pub capacity_small : p.capacity < 2 ^ 31
  capacity_small =
      let small = part_small r ok r.free r.critical ok.free_high in
      let same = p.made.capacity in
      let c = ok.critical_high in
      let j = ok.jam_high in
      omega arith

  -- the three together are the units of the face
  pub paced_flow : (a b : ℕ) → a ≤ r.jam → min (min (part p.send a) (part p.receive (r.jam - b))) p.capacity ≡ units r (numerator r a b)
  paced_flow a b h =
      let j = ok.jam_high in
      let sent = send_part a (le_trans h j) in
      let received = receive_part (r.jam - b) (omega arith) in
      let capacity = p.made.capacity in
      let all = least_of_three r ok a b in
      omega arith
