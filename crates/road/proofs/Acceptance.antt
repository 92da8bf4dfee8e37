-- An accepted road is one that nothing refuses.
use mathlib.Core.Path.{◌≡◌}
use mathlib.Core.Bool.{false}
use Prim.Native.Nat.{◌-◌, ◌*◌}
use native.Mathlib.Omega.{arith}
use lib.Dec.{eqb}
use borrow.Author.Tests.{eqb-true, eq-eqb, not-false}
use Rattle.road.specs.Ceilings.{divisor_ceiling, jam_ceiling}
use Rattle.road.specs.Judgement.{outside, bad_divisor, bad_speeds, bad_densities, unbalanced, road_checks, road_refusal, Accepted}
use Rattle.road.specs.declared.Road.{Road}
use Rattle.refusal.proofs.Table.{none_holds, ◌&◌}
use Rattle.choice.proofs.Choice.{or_left, or_right, neither}
use Rattle.road.proofs.Ranges.{from_low, to_high, inside}

-- a road of which none of its four checks holds is accepted
pub accepted_by : (r : Road) → bad_divisor r ≡ false → bad_speeds r ≡ false → bad_densities r ≡ false → unbalanced r ≡ false → Accepted r
accepted_by r one two three four =
    let p = or_left (outside 1 r.divisor r.free) (outside 1 r.divisor r.wave) two in
    let q = or_right (outside 1 r.divisor r.free) (outside 1 r.divisor r.wave) two in
    let j = or_left (outside 2 jam_ceiling r.jam) (outside 1 (r.jam - 1) r.critical) three in
    let k = or_right (outside 2 jam_ceiling r.jam) (outside 1 (r.jam - 1) r.critical) three in
    let j-low = from_low 2 jam_ceiling r.jam j in
    let k-high = to_high 1 (r.jam - 1) r.critical k in
    record {
      divisor_low = from_low 1 divisor_ceiling r.divisor one;
      divisor_high = to_high 1 divisor_ceiling r.divisor one;
      free_low = from_low 1 r.divisor r.free p;
      free_high = to_high 1 r.divisor r.free p;
      wave_low = from_low 1 r.divisor r.wave q;
      wave_high = to_high 1 r.divisor r.wave q;
      jam_low = j-low;
      jam_high = to_high 2 jam_ceiling r.jam j;
      critical_low = from_low 1 (r.jam - 1) r.critical k;
      critical_high = omega arith;
      balance = eqb-true (r.free * r.critical) (r.wave * (r.jam - r.critical)) (not-false (eqb (r.free * r.critical) (r.wave * (r.jam - r.critical))) four);
    }

pub accepted_of : (r : Road) → (road_refusal r).number ≡ 0 → Accepted r
unfolding road_refusal
accepted_of r e = let no = none_holds (road_checks r) tt e in accepted_by r (no 1) (no 2) (no 3) (no 4)

-- and the other way round, with what is known of the checks below
pub road_passes : (r : Road) → Accepted r → {Below : Type 0} → Below
    → (bad_divisor r ≡ false) × ((bad_speeds r ≡ false) × ((bad_densities r ≡ false) × ((unbalanced r ≡ false) × Below)))
road_passes r a below =
    inside 1 divisor_ceiling r.divisor a.divisor_low a.divisor_high
    & neither (outside 1 r.divisor r.free) (outside 1 r.divisor r.wave)
    (inside 1 r.divisor r.free a.free_low a.free_high)
    (inside 1 r.divisor r.wave a.wave_low a.wave_high)
    & neither (outside 2 jam_ceiling r.jam) (outside 1 (r.jam - 1) r.critical)
    (inside 2 jam_ceiling r.jam a.jam_low a.jam_high)
    (inside 1 (r.jam - 1) r.critical a.critical_low (omega arith))
    & (simp (eq-eqb (r.free * r.critical) (r.wave * (r.jam - r.critical)) a.balance))
    & below
