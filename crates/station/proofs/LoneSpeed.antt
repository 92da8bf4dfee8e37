-- A lone speed whose rounded s × D is below p gives a density from C to J, both included, on every accepted road.
use mathlib.Core.Path.{◌∙◌}
use Prim.Native.Nat.{◌+◌, ◌^◌, ◌≤◌}
use native.Mathlib.Nat.{le_trans, le_of_eq, le_of_lt, mul_comm, mul-pos}
use native.Mathlib.Omega.{arith}
use lib.Dec.{lit≤}
use lib.IntN.{pos}
use lib.Ieee.{Float, binary64, prec}
use Rattle.road.specs.Judgement.{Accepted}
use Rattle.road.specs.declared.Road.{Road}
use Rattle.floats.specs.Worth.{FiniteFrom, SlowerThan}
use Rattle.floats.proofs.Round.{of_int_worth}
use Rattle.floats.proofs.Between.{slower_up_to, sum_between, quotient_between}
use Rattle.station.specs.Station.{times_divisor, speed_density}
use Rattle.station.proofs.Products.{wave_jam}
use Rattle.station.proofs.Speeds.{accepted_balanced, corner}

-- the rounded sum lies from q to p + q, and q × J is (p + q) × C
pub speed_range : {r : Road} → Accepted r → (s : Float) → SlowerThan r.free (times_divisor r s) → FiniteFrom r.critical r.jam (speed_density r s)
unfolding speed_density
speed_range {r} ok s slow =
    let small : 8192 ≤ 2 ^ prec binary64 = lit≤ tt in
    let wave : r.wave ≤ 4096 = le_trans ok.wave_high ok.divisor_high in
    let free : r.free ≤ 4096 = le_trans ok.free_high ok.divisor_high in
    let both : r.free + r.wave ≤ 2 ^ prec binary64 = le_trans (omega arith) small in
    let divides = sum_between binary64 ok.wave_low both (slower_up_to slow) (of_int_worth binary64 (pos r.wave) (le_trans (omega arith) small)) in
    quotient_between binary64 ok.critical_low (le_trans ok.jam_high (lit≤ tt)) ok.wave_low
    (le_of_eq (mul_comm r.critical (r.free + r.wave) ∙ corner (accepted_balanced ok)))
    (le_of_eq (mul_comm r.wave r.jam))
    (mul-pos ok.wave_low (le_trans ok.critical_low (le_of_lt ok.critical_high)))
    (wave_jam ok)
    divides
