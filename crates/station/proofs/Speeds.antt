-- Which densities move at which speed, by products alone: (p + q) × C = q × J.
use mathlib.Core.Path.{◌≡◌, ◌∙◌, sym, ap, ap₂}
use Prim.Native.Nat.{ℕ, ◌+◌, ◌-◌, ◌*◌, ◌≤◌, ◌<◌, min}
use native.Mathlib.Nat.{le_of_lt, lt_of_not-le, mul-pos, add-mul, mul-sub, mul_left_comm, mul-mul-mul_comm, eq_of_mul-eq-mul_left, mul-le-mul_left, mul-le-mul_right, mul-lt-mul_of_pos_left, mul-lt-mul_of_pos_right, min-eq_left, min-eq_right, sub-le-sub_left}
use native.Mathlib.Decide.{dec_le, dec_lt}
use native.Mathlib.Omega.{arith}
use Rattle.road.specs.Judgement.{Accepted}
use Rattle.road.specs.declared.Road.{Road}
use Rattle.flux.specs.Face.{numerator}
use Rattle.flux.proofs.Laws.{sending_free, sending_full, receiving_free, receiving_full}
use Rattle.station.specs.Speeds.{Balanced, finer, Moves, SpeedDensity, OneDensity}

pub accepted_balanced : {r : Road} → Accepted r → Balanced r
accepted_balanced a =
    record { wave_low = a.wave_low; critical_low = a.critical_low; critical_high = a.critical_high; balance = a.balance }

pub finer_balanced : (m z : ℕ) {r : Road} → 1 ≤ m → 1 ≤ z → Balanced r → Balanced (finer m z r)
finer_balanced m z {r} hm hz b = record {
  wave_low = mul-pos hm b.wave_low;
  critical_low = mul-pos hz b.critical_low;
  critical_high = mul-lt-mul_of_pos_left b.critical_high hz;
  balance =
      mul-mul-mul_comm m r.free z r.critical
      ∙ ap (λ (n : ℕ). m * z * n) b.balance
      ∙ mul-mul-mul_comm m z r.wave (r.jam - r.critical)
      ∙ ap (λ (n : ℕ). m * r.wave * n) (mul-sub z r.jam r.critical);
}

-- the density that E1 gives the speed k/(m × D) is whole at some scale: in parts of 1/(k + m × q) it is m × q × J
pub some_density : (m k : ℕ) (r : Road) → let fine = finer m (k + m * r.wave) r in
    (k + fine.wave) * (m * r.wave * r.jam) ≡ fine.wave * fine.jam
some_density m k r = mul_left_comm (k + m * r.wave) (m * r.wave) r.jam

module _ {r : Road} (ok : Balanced r) where
  -- what a cell receives, in products
  room : (ρ : ℕ) → r.wave * (r.jam - ρ) ≡ r.wave * r.jam - r.wave * ρ
  room ρ = mul-sub r.wave r.jam ρ

  -- the free speed's line ends at the critical density
  pub corner : (r.free + r.wave) * r.critical ≡ r.wave * r.jam
  corner =
      let split = add-mul r.free r.wave r.critical in
      let less = mul-le-mul_left r.wave (le_of_lt ok.critical_high) in
      let left = room r.critical in
      let same = ok.balance in
      omega arith

  -- up to the critical density traffic moves at the free speed, whatever its density
  free_flow : (ρ : ℕ) → ρ ≤ r.critical → Moves r r.free ρ
  unfolding numerator
  free_flow ρ h =
      let sent = mul-le-mul_left r.free h in
      let same = ok.balance in
      ap₂ min (sending_free r h) (receiving_free r h) ∙ min-eq_left (omega arith)

  -- above it as much moves as there is room for, which is no more than at the critical density
  capacity : (ρ : ℕ) → r.critical < ρ → r.wave * (r.jam - ρ) ≤ r.free * r.critical
  capacity ρ h =
      let less = mul-le-mul_left r.wave (sub-le-sub_left (le_of_lt h) r.jam) in
      let same = ok.balance in
      omega arith

  dense_flow : (ρ : ℕ) → r.critical < ρ → numerator r ρ ρ ≡ r.wave * (r.jam - ρ)
  unfolding numerator
  dense_flow ρ h = ap₂ min (sending_full r (le_of_lt h)) (receiving_full r (le_of_lt h)) ∙ min-eq_right (capacity ρ h)

  module _ (k ρ : ℕ) (e : (k + r.wave) * ρ ≡ r.wave * r.jam) where
    split : k * ρ + r.wave * ρ ≡ r.wave * r.jam
    split = let s = add-mul k r.wave ρ in omega (arith, e)

    up_to_jam : Dec (ρ ≤ r.jam) → ρ ≤ r.jam
    up_to_jam (yes h) = h
    up_to_jam (no n) =
        let more = mul-lt-mul_of_pos_left (lt_of_not-le n) ok.wave_low in
        absurd (omega (arith, split))

    on_line : r.wave * (r.jam - ρ) ≡ k * ρ
    on_line = let s = split in let t = room ρ in omega arith

    is_dense : k < r.free → Dec (r.critical < ρ) → r.critical < ρ
    is_dense slow (yes h) = h
    is_dense slow (no n) =
        let here : (k + r.wave) * ρ ≤ (k + r.wave) * r.critical = mul-le-mul_left (k + r.wave) (omega arith) in
        let more : (k + r.wave) * r.critical < (r.free + r.wave) * r.critical = mul-lt-mul_of_pos_right (omega arith) ok.critical_low in
        let full = corner in
        absurd (omega (arith, e))

    is_slow : r.critical < ρ → Dec (k < r.free) → k < r.free
    is_slow dense (yes h) = h
    is_slow dense (no n) =
        let low = ok.wave_low in
        let here : (r.free + r.wave) * r.critical < (r.free + r.wave) * ρ = mul-lt-mul_of_pos_left dense (omega arith) in
        let more : (r.free + r.wave) * ρ ≤ (k + r.wave) * ρ = mul-le-mul_right ρ (omega arith) in
        let full = corner in
        absurd (omega (arith, e))

    -- the density that E1 gives a speed
    pub speed_density_is : SpeedDensity r k ρ
    speed_density_is = record {
      within = up_to_jam (dec_le ρ r.jam);
      line = on_line;
      moves = λ h. dense_flow ρ h ∙ on_line;
      slow_dense = λ h. is_dense h (dec_lt r.critical ρ);
      dense_slow = λ h. is_slow h (dec_lt k r.free);
    }

  only : (k ρ : ℕ) → k < r.free → 1 ≤ ρ → ρ ≤ r.jam → Moves r k ρ → (k + r.wave) * ρ ≡ r.wave * r.jam
  only k ρ slow some full moves = by_density (dec_le ρ r.critical)
    where
      by_density : Dec (ρ ≤ r.critical) → (k + r.wave) * ρ ≡ r.wave * r.jam
      by_density (yes h) =
          let faster : k * ρ < r.free * ρ = mul-lt-mul_of_pos_right slow some in
          let free = free_flow ρ h in
          absurd (omega (arith, moves))
      by_density (no n) =
          let dense = dense_flow ρ (lt_of_not-le n) in
          let left = room ρ in
          let less : r.wave * ρ ≤ r.wave * r.jam = mul-le-mul_left r.wave full in
          let s = add-mul k r.wave ρ in
          omega (arith, moves)

  one : (k ρ σ : ℕ) → (k + r.wave) * ρ ≡ r.wave * r.jam → (k + r.wave) * σ ≡ r.wave * r.jam → ρ ≡ σ
  one k ρ σ e f = eq_of_mul-eq-mul_left (k + r.wave) (let low = ok.wave_low in omega arith) ρ σ (e ∙ sym f)

  none : (k ρ : ℕ) → r.free < k → 1 ≤ ρ → Moves r k ρ → ⊥
  none k ρ fast some moves = by_density (dec_le ρ r.critical)
    where
      faster : r.free * ρ < k * ρ
      faster = mul-lt-mul_of_pos_right fast some

      by_density : Dec (ρ ≤ r.critical) → ⊥
      by_density (yes h) = let free = free_flow ρ h in omega (arith, moves, faster)
      by_density (no n) =
          let dense = dense_flow ρ (lt_of_not-le n) in
          let most = capacity ρ (lt_of_not-le n) in
          let more : r.free * r.critical ≤ r.free * ρ = mul-le-mul_left r.free (le_of_lt (lt_of_not-le n)) in
          omega (arith, moves, faster)

  -- of the densities from 1 to jam: below the free speed at most one moves so, at it every one up to the critical, above it none
  pub one_density : OneDensity r
  one_density = record { only = only; one = one; free = free_flow; none = none }
