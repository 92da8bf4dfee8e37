-- Scaling: a homogeneous flow on k times the densities, at k times the scale, gives k times the result.
use mathlib.Core.Path.{◌≡◌, refl}
use mathlib.Core.List.{List, [], ◌∷◌}
use Prim.Native.Nat.{ℕ, suc, ◌+◌, ◌-◌, ◌*◌}
use native.Mathlib.Nat.{mul-sub, mul-add, mul_assoc, mul_left_comm}
use Rattle.scheme.specs.Advance.{ahead, advance, entering, stepped}
use Rattle.scheme.specs.Sums.{times}
use Rattle.scheme.specs.Runs.{step_at}

pub ahead_times : (k d : ℕ) (xs : List ℕ) → ahead (k * d) (times k xs) ≡ k * ahead d xs
unfolding ahead times
ahead_times k d [] = refl
ahead_times k d (x ∷ xs) = refl

cell_times : (m k x w f : ℕ) → m * (k * x) + k * w - k * f ≡ k * (m * x + w - f)
cell_times m k x w f = simp (mul-sub, mul-add, mul_left_comm m k x)

-- for a flow G that is k times F at k times the densities
module _ (m k : ℕ) (F G : ℕ → ℕ → ℕ → ℕ) (homog : (i a b : ℕ) → G i (k * a) (k * b) ≡ k * F i a b) where
  flow_times : (i a d : ℕ) (xs : List ℕ) → G i (k * a) (ahead (k * d) (times k xs)) ≡ k * F i a (ahead d xs)
  flow_times i a d xs = rw ahead_times (homog i a (ahead d xs))

  advance_times : (i w d : ℕ) (xs : List ℕ) → advance m G i (k * w) (k * d) (times k xs) ≡ times k (advance m F i w d xs)
  unfolding advance times
  advance_times i w d [] = refl
  advance_times i w d (x ∷ xs) =
      let f : ℕ = F i x (ahead d xs) in
      cc (flow_times i x d xs, cell_times m k x w f, advance_times (suc i) f d xs)

  pub stepped_times : (u d : ℕ) (xs : List ℕ) → stepped m G (k * u) (k * d) (times k xs) ≡ times k (stepped m F u d xs)
  unfolding stepped entering
  stepped_times u d xs = rw (flow_times 0 u d xs) (advance_times 1 (F 0 u (ahead d xs)) d xs)

pub step_at_times : (G : ℕ → ℕ → ℕ → ℕ → ℕ) → ((k z i a b : ℕ) → G (k * z) i (k * a) (k * b) ≡ k * G z i a b)
    → (m k z u d : ℕ) (xs : List ℕ) → step_at m G (k * z) u d (times k xs) ≡ times k (step_at m G z u d xs)
step_at_times G homog m k z u d xs = rw (mul_assoc k z u, mul_assoc k z d) (stepped_times m k (G z) (G (k * z)) (homog k z) (z * u) (z * d) xs)
