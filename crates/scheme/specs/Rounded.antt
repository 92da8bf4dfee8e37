-- The forecast's scheme: each face moves the units of its flow (document 01, "Step, forecast and settling"), rounded as document 02, E2, says, under its cap (E7).
use Rattle.std.specs.Prelude.{List, ℕ, ◌+◌, min, get_or, replicate}
use Rattle.road.specs.declared.Road.{Road}
use Rattle.flux.specs.Face.{numerator, units}
use Rattle.scheme.specs.Advance.{entering, leaving, stepped}
use Rattle.scheme.specs.Runs.{ran, summed}

-- "a face moves the smaller of its rounded flow and its cap", between an upstream and a downstream density; the caps are "whole units per step", face 0's first
abbrev pub moved : Road → List ℕ → ℕ → ℕ → ℕ → ℕ
moved r caps face a b = min (units r (numerator r a b)) (get_or caps face 0)

-- an open face: the largest cap of 32 bits, under which a face moves its rounded flow (`open_moves`); and n+1 of them, for the faces of n cells
abbrev pub open_cap : ℕ
open_cap = 4294967295

abbrev pub open_caps : ℕ → List ℕ
open_caps n = replicate (n + 1) open_cap

-- the cells after one step with the ghost densities up and down
abbrev pub round_step : Road → List ℕ → ℕ → ℕ → List ℕ → List ℕ
round_step r caps up down xs = stepped 1 (moved r caps) up down xs

-- the cells after a step for each pair of the two end lists, the first pair first; the caps are the same in every step
unfoldable pub round_run : Road → List ℕ → List ℕ → List ℕ → List ℕ → List ℕ
unfolding ran
round_run r caps = ran (λ t. round_step r caps)

-- entered: the sum of the units over face 0
unfoldable pub entered : Road → List ℕ → List ℕ → List ℕ → List ℕ → ℕ
unfolding summed
entered r caps = summed (λ t. round_step r caps) (λ t. entering (moved r caps))

-- left: the sum of the units over face n
unfoldable pub left : Road → List ℕ → List ℕ → List ℕ → List ℕ → ℕ
unfolding summed
left r caps = summed (λ t. round_step r caps) (λ t. leaving (moved r caps))
