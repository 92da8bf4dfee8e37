-- Faces, steps and runs, taken apart: what `scheme`'s specs/ByFaces.antt says, spelled out again from the numbers of a road, so that no sentence of the commission rests on those names alone.
use Rattle.std.specs.Prelude.{◌≡◌, List, [], ◌∷◌, ◌++◌, ℕ, ◌+◌, ◌-◌, ◌*◌, ◌≤◌, ◌<◌, min, max, length, get_or}
use Rattle.road.specs.Judgement.{Accepted}
use Rattle.road.specs.declared.Road.{Road}
use Rattle.flux.specs.Face.{units}
use Rattle.scheme.specs.ByFaces.{numerator_over, StepByFaces, RunByFaces, ExactStepByFaces, ExactRunByFaces}

-- cell k, from 1, with the ghost cells at 0 and beyond the last
abbrev pub beside : ℕ → ℕ → List ℕ → ℕ → ℕ
beside up down cells k = get_or (up ∷ (cells ++ (down ∷ []))) k 0

-- document 01: "For upstream density a and downstream density b, the flow numerator is the smaller of p × min(a, C) and q × (J − max(b, C))", with j and c for J and C
abbrev pub smaller_of : Road → ℕ → ℕ → ℕ → ℕ → ℕ
smaller_of r j c a b = min (r.free * min a c) (r.wave * (j - max b c))

-- what face k moves: "the smaller of its rounded flow and its cap" (document 02, E7)
abbrev pub units_at : Road → List ℕ → ℕ → ℕ → List ℕ → ℕ → ℕ
units_at r caps up down cells k = min (units r (smaller_of r r.jam r.critical (beside up down cells k) (beside up down cells (k + 1)))) (get_or caps k 0)

-- in the exact scheme, at scale Z, "the smaller of document 01's f and cap × D × Z", f "with x, the ends times Z, Z × C and Z × J in place of densities, ends, C and J"
abbrev pub flow_at : Road → List ℕ → ℕ → ℕ → ℕ → List ℕ → ℕ → ℕ
flow_at r caps z up down cells k =
    min (smaller_of r (z * r.jam) (z * r.critical) (beside (z * up) (z * down) cells k) (beside (z * up) (z * down) cells (k + 1))) (get_or caps k 0 * (r.divisor * z))

pub record FaceByFace : Type 0 where
  -- "rounds a face's flow to the nearest unit, and an exact half moves up" (document 02, E2): f / D lies from the units − ½, included, to the units + ½, excluded
  pub nearest : (r : Road) → Accepted r → (f : ℕ) → (2 * r.divisor * units r f ≤ 2 * f + r.divisor) × (2 * f + r.divisor < 2 * r.divisor * (units r f + 1))
  -- document 01's numerator over face k, without caps, which E7 compares with cap × D
  pub over : (r : Road) (up down : ℕ) (cells : List ℕ) (k : ℕ) → numerator_over r up down cells k ≡ smaller_of r r.jam r.critical (beside up down cells k) (beside up down cells (k + 1))
  -- "New density = old + units in from the left − units out to the right"
  pub step : {r : Road} {caps : List ℕ} {up down : ℕ} {old new : List ℕ} → StepByFaces r caps up down old new
      → (length new ≡ length old) × ((k : ℕ) → k < length old → get_or new k 0 + units_at r caps up down old (k + 1) ≡ get_or old k 0 + units_at r caps up down old k)
  -- "with T = 0 the start comes back", and nothing has entered or left
  pub run_none : {r : Road} {caps cells next : List ℕ} {entered left : ℕ} → RunByFaces r caps [] [] cells next entered left → (next ≡ cells) × (entered ≡ 0) × (left ≡ 0)
  -- "pair t of the two end lists": a step with the first pair, then the run with the others; what enters and leaves is the units over face 0 and face n of the step, and those of the run
  pub run_more : {r : Road} {caps ups downs old next : List ℕ} {up down entered left : ℕ} → RunByFaces r caps (up ∷ ups) (down ∷ downs) old next entered left
      → (new : List ℕ) × (ins : ℕ) × (outs : ℕ) × StepByFaces r caps up down old new × RunByFaces r caps ups downs new next ins outs
      × (entered ≡ units_at r caps up down old 0 + ins) × (left ≡ units_at r caps up down old (length old) + outs)
  -- a pair is two ends
  pub run_pairs : {r : Road} {caps ups downs cells next : List ℕ} {entered left : ℕ} → RunByFaces r caps ups downs cells next entered left → length ups ≡ length downs
  -- "Step t+1 makes of cell i the number D × x(i) + f(i−1) − f(i)"
  pub exact_step_on : {r : Road} {caps : List ℕ} {z up down : ℕ} {old new : List ℕ} → ExactStepByFaces r caps z up down old new
      → (length new ≡ length old) × ((k : ℕ) → k < length old → get_or new k 0 + flow_at r caps z up down old (k + 1) ≡ r.divisor * get_or old k 0 + flow_at r caps z up down old k)
  pub exact_none : {r : Road} {caps cells next : List ℕ} {z : ℕ} → ExactRunByFaces r caps z [] [] cells next → next ≡ cells
  -- "let Z be D to the power t": each step at D times the scale of the one before
  pub exact_more : {r : Road} {caps ups downs old next : List ℕ} {z up down : ℕ} → ExactRunByFaces r caps z (up ∷ ups) (down ∷ downs) old next
      → (new : List ℕ) × ExactStepByFaces r caps z up down old new × ExactRunByFaces r caps (r.divisor * z) ups downs new next
