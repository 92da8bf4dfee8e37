-- The units of a face without a division: a road's factors and its capacity.
use Rattle.std.specs.Prelude.{◌≡◌, ℕ, ◌*◌}
use Rattle.road.specs.declared.Road.{Road}
use Rattle.flux.specs.Face.{units}
use Rattle.flux.specs.Factor.{factor_of}
use Rattle.flux.specs.declared.factor.Factor.{Factor}

-- the factors of both speeds, and the capacity: the units at critical
pub record IsPace (r : Road) (s q : Factor) (top : ℕ) : Type 0 where
  pub send : s ≡ factor_of r.free r.divisor
  pub receive : q ≡ factor_of r.wave r.divisor
  pub capacity : top ≡ units r (r.free * r.critical)
