-- What the checks "Lists" of the refusal table test, and the check of a cap list (document 02, E7).
use Rattle.std.specs.Prelude.{Bool, not, ℕ, ◌+◌, eqb, ltb}
use Rattle.choice.specs.Choice.{or}
use Rattle.road.specs.Ceilings.{cells_ceiling, horizon_ceiling}
use Rattle.road.specs.Judgement.{outside}

-- 5: n is 0 or above its ceiling
abbrev pub bad_cells : ℕ → Bool
bad_cells n = outside 1 cells_ceiling n

-- 6: horizon above its ceiling
abbrev pub bad_horizon : ℕ → Bool
bad_horizon t = ltb horizon_ceiling t

-- 7: an end list's length is not T
abbrev pub bad_ends : ℕ → ℕ → ℕ → Bool
bad_ends t ups downs = or (not (eqb ups t)) (not (eqb downs t))

-- 8: an output's length differs from its call's
abbrev pub bad_output : ℕ → ℕ → Bool
bad_output expected given = not (eqb given expected)

-- 20: "a cap list whose length is not n+1"
abbrev pub bad_caps : ℕ → ℕ → Bool
bad_caps cells caps = not (eqb caps (cells + 1))
