-- A speed as a factor, made once a road: a multiplier and what the rounding adds.
use Rattle.std.specs.Prelude.{ℕ, ◌+◌, ◌-◌, ◌*◌, ◌/◌, ◌^◌, ltb}
use Rattle.choice.specs.Choice.{pick}
use Rattle.flux.specs.declared.factor.Factor.{Factor}

-- x/d in parts of 1/2^32, rounded up
unfoldable pub multiplier : ℕ → ℕ → ℕ
multiplier x d = (x * 2 ^ 32 + (d - 1)) / d

-- a speed below the divisor: speed/divisor as a multiplier, and the half that rounding adds, half the divisor, rounded down, over the divisor
unfoldable pub slow_factor : ℕ → ℕ → Factor
slow_factor speed divisor = record { times = multiplier speed divisor; offset = multiplier (divisor / 2) divisor }

-- a speed of the whole divisor: the largest multiplier, which is short of one by 1/2^32, and half a unit, which makes up for it
unfoldable pub whole_factor : Factor
whole_factor = record { times = 2 ^ 32 - 1; offset = 2 ^ 31 }

-- the factor of speed/divisor
unfoldable pub factor_of : ℕ → ℕ → Factor
factor_of speed divisor = pick (ltb speed divisor) (slow_factor speed divisor) whole_factor

-- a density's part by a factor
unfoldable pub part : Factor → ℕ → ℕ
part f a = (a * f.times + f.offset) / 2 ^ 32
