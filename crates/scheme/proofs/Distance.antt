-- The distance of a rounded flow from its exact partner, over a step and over a run.
use mathlib.Core.Path.{◌≡◌, refl, sym, ◌∙◌}
use mathlib.Core.List.{List, [], ◌∷◌}
use Prim.Native.Nat.{ℕ, suc, ◌+◌, ◌-◌, ◌*◌, ◌^◌, ◌≤◌, ◌<◌, zero-le}
use native.Mathlib.Nat.{one-mul, mul-one, mul-zero, zero-add, mul-add, add-mul, mul-sub, mul-suc, suc-mul, mul_comm, mul_left_comm}
use native.Mathlib.Nat.{pow-zero, pow-suc, suc_inj, mul-le-mul_left, le-add_right}
use native.Mathlib.Omega.{arith}
use lib.ListN.{length}
use Rattle.scheme.specs.Advance.{ahead, advance, entering, stepped}
use Rattle.scheme.specs.Sums.{gap, distance, times}
use Rattle.scheme.specs.Runs.{ran, ran_by, step_at, scale_of, ran_at}
use Rattle.scheme.specs.Partners.{Partners}
use Rattle.scheme.proofs.Lists.{Pairs, none, one, distance_self, distance_triangle, times_length, times_one, times_times, times_distance}
use Rattle.scheme.proofs.Shape.{stepped_length}
use Rattle.scheme.proofs.Range.{out_holds}
use Rattle.scheme.proofs.Contraction.{stepped_contraction}
use Rattle.scheme.proofs.Runs.{power_scale}
use Rattle.scheme.proofs.Scaling.{step_at_times}

-- k times the first is off the second by less than k
abbrev pub Near : ℕ → ℕ → ℕ → Type 0
Near k x y = gap (k * x) y ≤ k - 1

near_distance : (k : ℕ) {xs ys : List ℕ} → Pairs (Near k) xs ys → distance (times k xs) ys ≤ length xs * (k - 1)
unfolding distance times
near_distance k none = zero-le
near_distance k (one {xs} h t) = omega (arith, near_distance k t, suc-mul (length xs) (k - 1))

-- a cell with the flows n in and f out, of which w and v whole units move
cell_near : (k x n f w v : ℕ) → v ≤ x → f ≤ k * x → n + v * k < f + w * k + k → f + w * k < n + v * k + k
    → Near k (1 * x + w - v) (k * x + n - f)
unfolding gap
cell_near k x n f w v h e p q = rw one-mul
    (omega (arith, mul-sub k (x + w) v, mul-add k x w, mul-le-mul_left k h, mul_comm k w, mul_comm k v))

-- one more step in a sum over n cells and t steps
one_more : (n t e s : ℕ) → n * suc t * e * s ≡ n * t * e * s + n * e * s
one_more n t e s = simp (mul-suc, add-mul)

module _ {D j c : ℕ} {units : ℕ → ℕ} {F : ℕ → ℕ → ℕ → ℕ} {G : ℕ → ℕ → ℕ → ℕ → ℕ} (laws : Partners D j c units F G) where
  -- along the list, n being the first face's flow: each cell is off by the difference of two rounding errors
  advance_near : (i n d : ℕ) (xs : List ℕ) → Pairs (Near D) (advance 1 F i (units n) d xs) (advance D (G 1) i n d xs)
  unfolding advance
  advance_near i n d [] = none
  advance_near i n d (x ∷ xs) =
      let f : ℕ = G 1 i x (ahead d xs) in
      let is : F i x (ahead d xs) ≡ units f = laws.whole i x (ahead d xs) in
      rw is
      (one (cell_near D x n f (units n) (units f) (rw is at (out_holds laws.rounded i x (ahead d xs))) ((laws.exact 1 i).send x (ahead d xs)) (laws.spread n f) (laws.spread f n))
      (advance_near (suc i) f d xs))

  -- the rounding of one step, cell by cell
  pub step_near : (u d : ℕ) (xs : List ℕ) → Pairs (Near D) (stepped 1 F u d xs) (step_at D G 1 u d xs)
  unfolding stepped entering
  step_near u d xs = rw (one-mul u, one-mul d, laws.whole 0 u (ahead d xs)) (advance_near 1 (G 1 0 u (ahead d xs)) d xs)

  -- and summed
  pub step_rounding : (u d : ℕ) (xs : List ℕ) → distance (times D (stepped 1 F u d xs)) (step_at D G 1 u d xs) ≤ length xs * (D - 1)
  step_rounding u d xs = rw stepped_length at (near_distance D (step_near u d xs))

  -- the same at scale z
  step_rounding_scaled : (z u d : ℕ) (ys : List ℕ)
      → distance (times (D * z) (stepped 1 F u d ys)) (step_at D G z u d (times z ys)) ≤ length ys * (D - 1) * z
  step_rounding_scaled z u d ys =
      let exact : step_at D G z u d (times z ys) ≡ times z (step_at D G 1 u d ys) = rw mul-one at (step_at_times G laws.homogeneous D z 1 u d ys) in
      rw (exact, mul_comm D z, times_times z D, times_distance, mul_comm (length ys * (D - 1)) z) (mul-le-mul_left z (step_rounding u d ys))

  -- one step of both from states that may differ: the exact step of the rounded state stands between
  step_distance : (z u d : ℕ) (xs ys : List ℕ) → length xs ≡ length ys
      → distance (times (D * z) (stepped 1 F u d ys)) (step_at D G z u d xs) ≤ length ys * (D - 1) * z + D * distance (times z ys) xs
  step_distance z u d xs ys e =
      let same : length (times z ys) ≡ length xs = times_length z ys ∙ sym e in
      omega (
        arith,
        distance_triangle (times (D * z) (stepped 1 F u d ys)) (step_at D G z u d (times z ys)) (step_at D G z u d xs)
            (simp (times_length, stepped_length)) (simp (stepped_length, same)),
        step_rounding_scaled z u d ys,
        stepped_contraction (laws.exact z) (z * u) (z * d) (times z ys) xs same,
      )

-- the run: each step adds its rounding, and multiplies by D what was there
pub run_distance : {D j c : ℕ} {units : ℕ → ℕ} {F : ℕ → ℕ → ℕ → ℕ → ℕ} {G : ℕ → ℕ → ℕ → ℕ → ℕ → ℕ} → ((t : ℕ) → Partners D j c units (F t) (G t))
    → (z : ℕ) (ups downs xs ys : List ℕ) → length ups ≡ length downs → length xs ≡ length ys
    → D * distance (times (D ^ length ups * z) (ran_by 1 F ups downs ys)) (ran_at D G z ups downs xs)
    ≤ D ^ suc (length ups) * distance (times z ys) xs + length ys * length ups * (D - 1) * (D ^ length ups * z)
unfolding ran scale_of
run_distance {D} laws z [] downs xs ys e h = rw (pow-suc, pow-zero, one-mul z, one-mul D) (le-add_right _ _)
run_distance laws z (u ∷ ups) [] xs ys e h = absurd (omega arith)
run_distance {D} {F = F} {G = G} laws z (u ∷ ups) (d ∷ downs) xs ys e h =
    let t : ℕ = length ups in
    let n : ℕ = length ys in
    let g : ℕ = distance (times z ys) xs in
    let xs' : List ℕ = step_at D (G 0) z u d xs in
    let ys' : List ℕ = stepped 1 (F 0) u d ys in
    omega (
      arith,
      rw (power_scale, stepped_length) at (run_distance (λ t. laws (suc t)) (D * z) ups downs xs' ys' (suc_inj e) (simp (stepped_length, h))),
      mul-le-mul_left (D ^ suc t) (step_distance (laws 0) z u d xs ys h),
      mul-add (D ^ suc t) (n * (D - 1) * z) (D * g),
      mul_left_comm (D ^ suc t) (n * (D - 1)) z,
      power_scale D (suc t) g,
      one_more n t (D - 1) (D ^ suc t * z),
    )

-- from one start, at scale 1
pub run_rounding : {D j c : ℕ} {units : ℕ → ℕ} {F : ℕ → ℕ → ℕ → ℕ → ℕ} {G : ℕ → ℕ → ℕ → ℕ → ℕ → ℕ} → ((t : ℕ) → Partners D j c units (F t) (G t))
    → (ups downs xs : List ℕ) → length ups ≡ length downs
    → D * distance (times (D ^ length ups) (ran_by 1 F ups downs xs)) (ran_at D G 1 ups downs xs) ≤ length xs * length ups * (D - 1) * D ^ length ups
run_rounding laws ups downs xs e =
    omega (arith, simp (mul-one, times_one, distance_self, mul-zero, zero-add) at (run_distance laws 1 ups downs xs xs e refl))
