-- The exact scheme in whole numbers: densities after t steps times Z, D to the power t (document 01, the paragraph on Z), with the caps of document 02, E7.
use Rattle.std.specs.Prelude.{List, ℕ, ◌*◌, min, get_or}
use Rattle.road.specs.declared.Road.{Road}
use Rattle.flux.specs.Face.{numerator, scaled}
use Rattle.scheme.specs.Advance.{stepped}
use Rattle.scheme.specs.Runs.{ran, scale_of}

-- the flow numerator with Z × C and Z × J in place of C and J; "f becomes the smaller of document 01's f and cap × D × Z"
abbrev pub exact_flow : Road → List ℕ → ℕ → ℕ → ℕ → ℕ → ℕ
exact_flow r caps z face a b = min (numerator (scaled z r) a b) (get_or caps face 0 * (r.divisor * z))

-- one step at scale Z, the ends times Z: cell i becomes D × x(i) + f(i−1) − f(i), at scale D × Z
abbrev pub exact_step : Road → List ℕ → ℕ → ℕ → ℕ → List ℕ → List ℕ
exact_step r caps z up down xs = stepped r.divisor (exact_flow r caps z) (z * up) (z * down) xs

-- a step for each pair of the end lists, each from the state and the scale that the last one left
unfoldable pub exact_run : Road → List ℕ → ℕ → List ℕ → List ℕ → List ℕ → List ℕ
unfolding ran scale_of
exact_run r caps z = ran (λ t. exact_step r caps (scale_of r.divisor z t))
