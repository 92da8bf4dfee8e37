-- In the density of a lone speed the product q × J is exact, on every accepted road.
use Prim.Native.Nat.{◌*◌}
use native.Mathlib.Nat.{le_trans, mul-le-mul}
use lib.Dec.{lit≤}
use lib.IntN.{pos}
use lib.Ieee.{binary64, mul}
use Rattle.road.specs.Judgement.{Accepted}
use Rattle.road.specs.declared.Road.{Road}
use Rattle.floats.specs.Worth.{Worth}
use Rattle.floats.proofs.Round.{of_int_worth}
use Rattle.floats.proofs.Product.{mul_worth}
use Rattle.station.specs.Station.{whole}

pub wave_jam : {r : Road} → Accepted r → Worth (mul binary64 (whole r.wave) (whole r.jam)) (pos (r.wave * r.jam))
wave_jam {r} ok =
    let wave = le_trans ok.wave_high ok.divisor_high in
    mul_worth binary64
    (of_int_worth binary64 (pos r.wave) (le_trans wave (lit≤ tt)))
    (of_int_worth binary64 (pos r.jam) (le_trans ok.jam_high (lit≤ tt)))
    (le_trans (mul-le-mul wave ok.jam_high) (lit≤ tt))
