-- Steps and runs told again, face by face, with no subtraction and no recursion over the cells: "a step moves the whole units of each face's flow", and in the exact scheme the flow itself.
-- Those of `Rounded` and `Exact` are such steps and runs, by `run_by_faces` and `exact_run_by_faces`.
use Rattle.std.specs.Prelude.{◌≡◌, List, [], ◌∷◌, ℕ, ◌+◌, ◌*◌, ◌<◌, min, length, get_or}
use Rattle.road.specs.declared.Road.{Road}
use Rattle.flux.specs.Face.{numerator, units, scaled}
use Rattle.scheme.specs.Advance.{padded}

-- document 01's f of face k, without caps: the face lies between cells k and k+1, the ghost cells standing at 0 and n+1
unfoldable pub numerator_over : Road → ℕ → ℕ → List ℕ → ℕ → ℕ
numerator_over r up down xs k = numerator r (get_or (padded up down xs) k 0) (get_or (padded up down xs) (k + 1) 0)

-- the units over face k: "the smaller of its rounded flow and its cap" (document 02, E7), rounded as E2 says
unfoldable pub units_over : Road → List ℕ → ℕ → ℕ → List ℕ → ℕ → ℕ
units_over r caps up down xs k = min (units r (numerator_over r up down xs k)) (get_or caps k 0)

-- "New density = old + units in from the left − units out to the right", all faces worked from the old densities: cell k+1 stands at place k, between faces k and k+1
pub record StepByFaces (r : Road) (caps : List ℕ) (up down : ℕ) (old new : List ℕ) : Type 0 where
  pub long : length new ≡ length old
  pub cell : (k : ℕ) → k < length old → get_or new k 0 + units_over r caps up down old (k + 1) ≡ get_or old k 0 + units_over r caps up down old k

-- a step for each pair of the end lists, from the start to the cells handed back, with "entered, the sum of units over face 0, and left, the sum over face n"
pub data RunByFaces (r : Road) (caps : List ℕ) : List ℕ → List ℕ → List ℕ → List ℕ → ℕ → ℕ → Type 0 where
  none : {cells : List ℕ} → RunByFaces r caps [] [] cells cells 0 0
  step : {up down : ℕ} {ups downs old new next : List ℕ} {entered left : ℕ}
      → StepByFaces r caps up down old new → RunByFaces r caps ups downs new next entered left
      → RunByFaces r caps (up ∷ ups) (down ∷ downs) old next (units_over r caps up down old 0 + entered) (units_over r caps up down old (length old) + left)

-- the flow numerator over face k at scale Z: f "with x, the ends times Z, Z × C and Z × J in place of densities, ends, C and J", and "the smaller of document 01's f and cap × D × Z"
unfoldable pub flow_over : Road → List ℕ → ℕ → ℕ → ℕ → List ℕ → ℕ → ℕ
flow_over r caps z up down xs k = min (numerator_over (scaled z r) (z * up) (z * down) xs k) (get_or caps k 0 * (r.divisor * z))

-- "D × x(i) + f(i−1) − f(i)"
pub record ExactStepByFaces (r : Road) (caps : List ℕ) (z up down : ℕ) (old new : List ℕ) : Type 0 where
  pub long : length new ≡ length old
  pub cell : (k : ℕ) → k < length old → get_or new k 0 + flow_over r caps z up down old (k + 1) ≡ r.divisor * get_or old k 0 + flow_over r caps z up down old k

-- a step for each pair of the end lists, each at D times the scale of the one before
pub data ExactRunByFaces (r : Road) (caps : List ℕ) : ℕ → List ℕ → List ℕ → List ℕ → List ℕ → Type 0 where
  exact_none : {z : ℕ} {cells : List ℕ} → ExactRunByFaces r caps z [] [] cells cells
  exact_step_on : {z up down : ℕ} {ups downs old new next : List ℕ}
      → ExactStepByFaces r caps z up down old new → ExactRunByFaces r caps (r.divisor * z) ups downs new next
      → ExactRunByFaces r caps z (up ∷ ups) (down ∷ downs) old next
