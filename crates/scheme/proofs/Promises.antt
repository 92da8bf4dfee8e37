-- What every run on an accepted road keeps, under every list of caps, with nothing left to assume: the theorems that the levels above cite.
use mathlib.Core.Path.{◌≡◌, ◌∙◌, refl, ap}
use mathlib.Core.List.{List}
use Prim.Native.Nat.{ℕ, zero, suc, ◌+◌, ◌-◌, ◌*◌, ◌^◌, ◌≤◌, ◌<◌}
use native.Mathlib.Omega.{arith}
use lib.ListN.{length, get_or, replicate}
use Rattle.road.specs.Ceilings.{jam_ceiling}
use Rattle.road.specs.Judgement.{Accepted}
use Rattle.road.specs.declared.Road.{Road}
use Rattle.scheme.specs.Advance.{face_flows}
use Rattle.scheme.specs.Sums.{sum, gap, distance, times, Below, NoMore}
use Rattle.scheme.specs.Runs.{iterated, scale_of}
use Rattle.scheme.specs.Rounded.{moved, round_step, round_run, entered, left}
use Rattle.scheme.specs.Exact.{exact_flow, exact_step, exact_run}
use Rattle.scheme.specs.Settling.{after, settle_steps, settle_cells}
use Rattle.scheme.proofs.Laws.{capped_homogeneous, partners}
use Rattle.scheme.proofs.Shape.{stepped_length}
use Rattle.scheme.proofs.Range.{stepped_cell}
use Rattle.scheme.proofs.Runs.{ran_length, run_below, run_balance, run_monotone, run_contraction, scaled_below}
use Rattle.scheme.proofs.Lists.{pairs_at}
use Rattle.scheme.proofs.Scaling.{step_at_times}
use Rattle.scheme.proofs.Underway.{run_small}
use Rattle.scheme.proofs.Distance.{step_near, run_rounding}

-- the k steps of a settling run are the run over k copies of its end pair
pub after_run : (r : Road) (caps : List ℕ) (up down k : ℕ) (xs : List ℕ) → after r caps up down k xs ≡ round_run r caps (replicate k up) (replicate k down) xs
unfolding iterated round_run
after_run r caps up down zero xs = refl
after_run r caps up down (suc k) xs = after_run r caps up down k (round_step r caps up down xs)

module _ (r : Road) (caps : List ℕ) (ok : Accepted r) where
  -- new + out equals old + in at each cell of the rounded step, and D × old + in at each cell of the exact one: no subtraction is cut off at 0
  pub round_cell : (u d : ℕ) (xs : List ℕ) (k : ℕ) → k < length xs
      → get_or (round_step r caps u d xs) k 0 + get_or (face_flows (moved r caps) u d xs) (suc k) 0
      ≡ 1 * get_or xs k 0 + get_or (face_flows (moved r caps) u d xs) k 0
  unfolding face_flows
  round_cell = stepped_cell (partners r caps ok).rounded

  pub exact_cell : (z u d : ℕ) (xs : List ℕ) (k : ℕ) → k < length xs
      → get_or (exact_step r caps z u d xs) k 0 + get_or (face_flows (exact_flow r caps z) (z * u) (z * d) xs) (suc k) 0
      ≡ r.divisor * get_or xs k 0 + get_or (face_flows (exact_flow r caps z) (z * u) (z * d) xs) k 0
  unfolding face_flows
  exact_cell z u d = stepped_cell ((partners r caps ok).exact z) (z * u) (z * d)

  -- every density stays from 0 to jam, in the exact scheme from 0 to Z × jam
  pub round_range : (ups downs xs : List ℕ) → Below r.jam xs → Below r.jam (round_run r caps ups downs xs)
  unfolding round_run
  round_range = run_below (λ t. (partners r caps ok).rounded)

  pub exact_range : (z : ℕ) (ups downs xs : List ℕ) → length ups ≡ length downs → Below (z * r.jam) xs
      → Below (r.divisor ^ length ups * (z * r.jam)) (exact_run r caps z ups downs xs)
  unfolding exact_run
  exact_range = scaled_below r.jam r.critical (λ t. (partners r caps ok).exact)

  -- units at the start plus entered equal units at the end plus left
  pub round_balance : (ups downs xs : List ℕ) → sum xs + entered r caps ups downs xs ≡ sum (round_run r caps ups downs xs) + left r caps ups downs xs
  unfolding round_run entered left
  round_balance = run_balance (λ t. (partners r caps ok).rounded)

  -- a step moves at most the ceiling of jam over face 0, and over face n
  pub round_small : (ups downs xs : List ℕ) → Below r.jam ups → Below r.jam xs
      → (entered r caps ups downs xs ≤ length ups * jam_ceiling) × (left r caps ups downs xs ≤ length ups * jam_ceiling)
  unfolding entered left
  round_small = run_small (λ t. (partners r caps ok).rounded) ok.jam_high

  -- start and ends nowhere higher give densities nowhere higher
  pub round_monotone : {ups ups' downs downs' xs ys : List ℕ} → NoMore ups ups' → NoMore downs downs' → NoMore xs ys
      → NoMore (round_run r caps ups downs xs) (round_run r caps ups' downs' ys)
  unfolding round_run
  round_monotone = run_monotone (λ t. (partners r caps ok).rounded)

  -- with equal ends two runs come no further apart
  pub round_contraction : (ups downs xs ys : List ℕ) → length xs ≡ length ys
      → distance (round_run r caps ups downs xs) (round_run r caps ups downs ys) ≤ distance xs ys
  unfolding round_run
  round_contraction = run_contraction (λ t. (partners r caps ok).rounded)

  -- D × a rounded new cell differs from the exact step of the same state by less than D
  pub round_near_cell : (u d : ℕ) (xs : List ℕ) (k : ℕ)
      → gap (r.divisor * get_or (round_step r caps u d xs) k 0) (get_or (exact_step r caps 1 u d xs) k 0) < r.divisor
  unfolding gap
  round_near_cell u d xs k =
      let low = ok.divisor_low in
      omega (arith, pairs_at (omega arith) (step_near (partners r caps ok) u d xs) k)

  -- D times the summed distance from the exact scheme, at scale D to the power T, is at most n × T × (D − 1) at that scale
  pub round_near : (ups downs xs : List ℕ) → length ups ≡ length downs
      → r.divisor * distance (times (r.divisor ^ length ups) (round_run r caps ups downs xs)) (exact_run r caps 1 ups downs xs)
      ≤ length xs * length ups * (r.divisor - 1) * r.divisor ^ length ups
  unfolding round_run exact_run
  round_near = run_rounding (λ t. partners r caps ok)

  -- a settling run keeps the balance and the range
  pub after_balance : (up down k : ℕ) (xs : List ℕ)
      → sum xs + entered r caps (replicate k up) (replicate k down) xs ≡ sum (after r caps up down k xs) + left r caps (replicate k up) (replicate k down) xs
  after_balance up down k xs = rw (after_run r caps up down k xs) (round_balance (replicate k up) (replicate k down) xs)

  pub settle_range : (up down t : ℕ) (xs : List ℕ) → Below r.jam xs → Below r.jam (settle_cells r caps up down t xs)
  unfolding settle_cells
  settle_range up down t xs h =
      let k = settle_steps r caps up down t xs in
      rw (after_run r caps up down k xs) (round_range (replicate k up) (replicate k down) xs h)

-- both schemes and a settling run keep the number of cells
pub round_run_length : (r : Road) (caps ups downs xs : List ℕ) → length (round_run r caps ups downs xs) ≡ length xs
unfolding round_run
round_run_length r caps = ran_length (λ t. round_step r caps) (λ t. stepped_length 1 (moved r caps))

pub exact_run_length : (r : Road) (caps : List ℕ) (z : ℕ) (ups downs xs : List ℕ) → length (exact_run r caps z ups downs xs) ≡ length xs
unfolding exact_run
exact_run_length r caps z = ran_length (λ t. exact_step r caps (scale_of r.divisor z t)) (λ t u d. stepped_length r.divisor _ _ _)

pub settle_length : (r : Road) (caps : List ℕ) (up down t : ℕ) (xs : List ℕ) → length (settle_cells r caps up down t xs) ≡ length xs
unfolding settle_cells
settle_length r caps up down t xs =
    let k = settle_steps r caps up down t xs in
    ap length (after_run r caps up down k xs) ∙ round_run_length r caps (replicate k up) (replicate k down) xs

-- the scale does not matter: k times the densities, at k times the scale, give k times the result, so that the whole-number form is document 01's fractions times Z
pub exact_scale : (r : Road) (caps : List ℕ) (k z u d : ℕ) (xs : List ℕ) → exact_step r caps (k * z) u d (times k xs) ≡ times k (exact_step r caps z u d xs)
exact_scale r caps = step_at_times (exact_flow r caps) (capped_homogeneous r caps) r.divisor
