-- Steps and runs face by face are what the commission spells out.
use mathlib.Core.Path.{◌≡◌, refl, ap}
use mathlib.Core.List.{List, [], ◌∷◌}
use Prim.Native.Nat.{ℕ, suc, ◌+◌, ◌*◌}
use lib.ListN.{length}
use Rattle.road.specs.declared.Road.{Road}
use Rattle.flux.specs.Face.{sending, receiving, numerator, scaled}
use Rattle.flux.proofs.Rounding.{units_nearest}
use Rattle.scheme.specs.Advance.{padded}
use Rattle.scheme.specs.ByFaces.{numerator_over, units_over, flow_over, StepByFaces, RunByFaces, none, step, ExactStepByFaces, ExactRunByFaces, exact_none, exact_step_on}
use Rattle.commission.specs.Faces.{units_at, FaceByFace}

run_none : {r : Road} {caps cells next : List ℕ} {entered left : ℕ} → RunByFaces r caps [] [] cells next entered left → (next ≡ cells) × (entered ≡ 0) × (left ≡ 0)
run_none none = (refl, refl, refl)

run_more : {r : Road} {caps ups downs old next : List ℕ} {up down entered left : ℕ} → RunByFaces r caps (up ∷ ups) (down ∷ downs) old next entered left
    → (new : List ℕ) × (ins : ℕ) × (outs : ℕ) × StepByFaces r caps up down old new × RunByFaces r caps ups downs new next ins outs
    × (entered ≡ units_at r caps up down old 0 + ins) × (left ≡ units_at r caps up down old (length old) + outs)
unfolding padded sending receiving numerator numerator_over units_over
run_more (step s rest) = (_, _, _, s, rest, refl, refl)

run_pairs : {r : Road} {caps ups downs cells next : List ℕ} {entered left : ℕ} → RunByFaces r caps ups downs cells next entered left → length ups ≡ length downs
run_pairs none = refl
run_pairs (step s rest) = ap suc (run_pairs rest)

exact_runs_none : {r : Road} {caps cells next : List ℕ} {z : ℕ} → ExactRunByFaces r caps z [] [] cells next → next ≡ cells
exact_runs_none exact_none = refl

exact_runs_more : {r : Road} {caps ups downs old next : List ℕ} {z up down : ℕ} → ExactRunByFaces r caps z (up ∷ ups) (down ∷ downs) old next
    → (new : List ℕ) × ExactStepByFaces r caps z up down old new × ExactRunByFaces r caps (r.divisor * z) ups downs new next
exact_runs_more (exact_step_on s rest) = (_, s, rest)

pub face_by_face : FaceByFace
unfolding padded sending receiving numerator scaled numerator_over units_over flow_over
face_by_face = record {
  nearest = λ r ok f. let n = units_nearest r ok.divisor_low f in (n.low, n.high);
  over = λ r up down cells k. refl;
  step = λ s. (s.long, s.cell);
  run_none = run_none;
  run_more = run_more;
  run_pairs = run_pairs;
  exact_step_on = λ s. (s.long, s.cell);
  exact_none = exact_runs_none;
  exact_more = exact_runs_more;
}
