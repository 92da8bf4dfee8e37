-- A rounded run is one that moves each face's whole units, and an exact run one that moves each face's flow.
use mathlib.Core.Path.{◌≡◌, ◌∙◌, sym}
use mathlib.Core.List.{List, [], ◌∷◌}
use Prim.Native.Nat.{ℕ, suc, ◌*◌, ◌≤◌, zero-le}
use native.Mathlib.Nat.{le_refl, suc_inj}
use native.Mathlib.Numerals.{add-one}
use native.Mathlib.Omega.{arith}
use lib.ListN.{length, get_or, replicate, length-replicate}
use Rattle.road.specs.Judgement.{Accepted}
use Rattle.road.specs.declared.Road.{Road}
use Rattle.scheme.specs.Advance.{entering, leaving, face_flows}
use Rattle.scheme.specs.Rounded.{moved, round_step, round_run, entered, left}
use Rattle.scheme.specs.Settling.{after}
use Rattle.scheme.specs.Calls.{Stepped, SteppedByFaces}
use Rattle.scheme.specs.Exact.{exact_flow, exact_step, exact_run}
use Rattle.scheme.specs.declared.one_step.Moved.{Moved}
use Rattle.scheme.specs.ByFaces.{numerator_over, units_over, StepByFaces, RunByFaces, none, step, flow_over, ExactStepByFaces, ExactRunByFaces, exact_none, exact_step_on}
use Rattle.scheme.proofs.Faces.{flow_at_face, enters_first, leaves_last}
use Rattle.scheme.proofs.Shape.{stepped_length}
use Rattle.scheme.proofs.Promises.{round_cell, exact_cell, after_run}

module _ (r : Road) (caps : List ℕ) where
  over_face : (u d : ℕ) (xs : List ℕ) (k : ℕ) → k ≤ length xs → get_or (face_flows (moved r caps) u d xs) k 0 ≡ units_over r caps u d xs k
  unfolding units_over numerator_over
  over_face u d xs k h = rw (add-one k) (flow_at_face (moved r caps) u d xs k h)

  enters : (u d : ℕ) (xs : List ℕ) → entering (moved r caps) u d xs ≡ units_over r caps u d xs 0
  enters u d xs = enters_first (moved r caps) u d xs ∙ over_face u d xs 0 zero-le

  leaves : (u d : ℕ) (xs : List ℕ) → leaving (moved r caps) u d xs ≡ units_over r caps u d xs (length xs)
  leaves u d xs = leaves_last (moved r caps) u d xs ∙ over_face u d xs (length xs) (le_refl (length xs))

  module _ (ok : Accepted r) where
    step_by_faces : (u d : ℕ) (xs : List ℕ) → StepByFaces r caps u d xs (round_step r caps u d xs)
    step_by_faces u d xs = record {
      long = stepped_length 1 (moved r caps) u d xs;
      cell = λ k h.
          let out = over_face u d xs (suc k) h in
          let in-flow = over_face u d xs k (omega arith) in
          let one = round_cell r caps ok u d xs k h in
          rw add-one (omega arith);
    }

    -- so of the code's step by its contract alone, with the units over face 0 and face n: every face is worked from the densities that the list held before, though each new one is written over an old one
    pub step_faces : {u d : ℕ} {xs ys : List ℕ} {m : Moved} → Stepped (moved r caps) u d xs ys m
        → SteppedByFaces r caps u d xs ys m
    step_faces {u} {d} {xs} s = record { cells = rw s.cells (step_by_faces u d xs); entered = s.entered ∙ enters u d xs; left = s.left ∙ leaves u d xs }

    pub run_by_faces : (ups downs xs : List ℕ) → length ups ≡ length downs
        → RunByFaces r caps ups downs xs (round_run r caps ups downs xs) (entered r caps ups downs xs) (left r caps ups downs xs)
    unfolding round_run entered left
    run_by_faces [] [] xs e = none
    run_by_faces [] (d ∷ downs) xs e = absurd (omega arith)
    run_by_faces (u ∷ ups) [] xs e = absurd (omega arith)
    run_by_faces (u ∷ ups) (d ∷ downs) xs e =
        rw (enters u d xs, leaves u d xs) (step (step_by_faces u d xs) (run_by_faces ups downs (round_step r caps u d xs) (suc_inj e)))

    -- k steps of one end pair likewise
    pub after_by_faces : (up down k : ℕ) (xs : List ℕ)
        → RunByFaces r caps (replicate k up) (replicate k down) xs (after r caps up down k xs)
        (entered r caps (replicate k up) (replicate k down) xs) (left r caps (replicate k up) (replicate k down) xs)
    after_by_faces up down k xs =
        rw (after_run r caps up down k xs)
        (run_by_faces (replicate k up) (replicate k down) xs (length-replicate k up ∙ sym (length-replicate k down)))

  -- the exact scheme likewise
  over_face_exactly : (z u d : ℕ) (xs : List ℕ) (k : ℕ) → k ≤ length xs → get_or (face_flows (exact_flow r caps z) (z * u) (z * d) xs) k 0 ≡ flow_over r caps z u d xs k
  unfolding flow_over numerator_over
  over_face_exactly z u d xs k h = rw (add-one k) (flow_at_face (exact_flow r caps z) (z * u) (z * d) xs k h)

  module _ (ok : Accepted r) where
    pub exact_step_by_faces : (z u d : ℕ) (xs : List ℕ) → ExactStepByFaces r caps z u d xs (exact_step r caps z u d xs)
    exact_step_by_faces z u d xs = record {
      long = stepped_length r.divisor (exact_flow r caps z) (z * u) (z * d) xs;
      cell = λ k h.
          let out = over_face_exactly z u d xs (suc k) h in
          let in-flow = over_face_exactly z u d xs k (omega arith) in
          let one = exact_cell r caps ok z u d xs k h in
          rw add-one (omega arith);
    }

    pub exact_run_by_faces : (z : ℕ) (ups downs xs : List ℕ) → length ups ≡ length downs → ExactRunByFaces r caps z ups downs xs (exact_run r caps z ups downs xs)
    unfolding exact_run
    exact_run_by_faces z [] [] xs e = exact_none
    exact_run_by_faces z [] (d ∷ downs) xs e = absurd (omega arith)
    exact_run_by_faces z (u ∷ ups) [] xs e = absurd (omega arith)
    exact_run_by_faces z (u ∷ ups) (d ∷ downs) xs e =
        exact_step_on (exact_step_by_faces z u d xs) (exact_run_by_faces (r.divisor * z) ups downs (exact_step r caps z u d xs) (suc_inj e))
