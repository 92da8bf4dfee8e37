-- A quotient rounded up, as std has it and as the thresholds' definition does.
use mathlib.Core.Path.{◌≡◌, sym, ap}
use Prim.Native.Nat.{ℕ, ◌+◌, ◌-◌, ◌*◌, ◌/◌, ◌≤◌, ◌<◌}
use native.Mathlib.Nat.{div-eq_of_lt-le}
use native.Mathlib.Omega.{arith}
use Rattle.std.specs.Int.{div_ceil}
use Rattle.std.proofs.lemmas.Grind.{div_ceil_times}
use Rattle.road.specs.declared.accepted.AcceptedRoad.{AcceptedRoad}
use Rattle.flux.specs.Face.{sending}
use Rattle.flux.specs.Thresholds.{left_threshold}
use Rattle.flux.proofs.Thresholds.{needed_within}

-- by a sum before the division
ceiling : (a d : ℕ) → 0 < d → (a + (d - 1)) / d ≡ div_ceil a d
ceiling a d pos =
    let bounds = div_ceil_times a d pos in
    let most : a ≤ div_ceil a d * d = bounds.0 in
    let least : div_ceil a d * d < a + d = bounds.1 in
    div-eq_of_lt-le d (omega arith) (omega arith)

module _ (road : AcceptedRoad) (a : ℕ) where
  -- the room that what a sends needs
  pub needed_within_jam : div_ceil (sending road.road a) road.road.wave ≤ road.road.jam
  needed_within_jam =
      let r = road.road in
      rw (ceiling (sending r a) r.wave road.accepted.wave_low) at (needed_within r road.accepted a)

  pub rounded_up : road.road.jam - div_ceil (sending road.road a) road.road.wave ≡ left_threshold road.road a
  unfolding left_threshold
  rounded_up =
      let r = road.road in
      ap (λ (needed : ℕ). r.jam - needed) (sym (ceiling (sending r a) r.wave road.accepted.wave_low))
