-- Runs: a step for each pair of the end lists, for any step S (its number from 0, the ghost densities, the cells) and so for any flow and multiplier.
use Rattle.std.specs.Prelude.{List, [], ◌∷◌, ℕ, zero, suc, ◌+◌, ◌*◌, take}
use Rattle.scheme.specs.Advance.{entering, leaving, stepped}

-- the cells after the steps, the first pair first
unfoldable pub ran : (ℕ → ℕ → ℕ → List ℕ → List ℕ) → List ℕ → List ℕ → List ℕ → List ℕ
ran S [] downs xs = xs
ran S (u ∷ ups) [] xs = xs
ran S (u ∷ ups) (d ∷ downs) xs = ran (λ t. S (suc t)) ups downs (S 0 u d xs)

-- the sum of f, a number of each step, such as the units over one of its faces
unfoldable pub summed : (ℕ → ℕ → ℕ → List ℕ → List ℕ) → (ℕ → ℕ → ℕ → List ℕ → ℕ) → List ℕ → List ℕ → List ℕ → ℕ
summed S f [] downs xs = 0
summed S f (u ∷ ups) [] xs = 0
summed S f (u ∷ ups) (d ∷ downs) xs = f 0 u d xs + summed (λ t. S (suc t)) (λ t. f (suc t)) ups downs (S 0 u d xs)

-- the state after the first k steps
abbrev pub reached : (ℕ → ℕ → ℕ → List ℕ → List ℕ) → ℕ → List ℕ → List ℕ → List ℕ → List ℕ
reached S k ups downs xs = ran S (take k ups) (take k downs) xs

-- the state after k steps of one S, for the ends that it was given
unfoldable pub iterated : (List ℕ → List ℕ) → ℕ → List ℕ → List ℕ
iterated S zero xs = xs
iterated S (suc k) xs = iterated S k (S xs)

-- the run of a flow F (step, face, upstream density, downstream density) with multiplier m: its cells, and the sums over face 0 and over face n
abbrev pub ran_by : ℕ → (ℕ → ℕ → ℕ → ℕ → ℕ) → List ℕ → List ℕ → List ℕ → List ℕ
ran_by m F = ran (λ t. stepped m (F t))

abbrev pub entered_by : ℕ → (ℕ → ℕ → ℕ → ℕ → ℕ) → List ℕ → List ℕ → List ℕ → ℕ
entered_by m F = summed (λ t. stepped m (F t)) (λ t. entering (F t))

abbrev pub left_by : ℕ → (ℕ → ℕ → ℕ → ℕ → ℕ) → List ℕ → List ℕ → List ℕ → ℕ
left_by m F = summed (λ t. stepped m (F t)) (λ t. leaving (F t))

-- a step of a flow G (scale, face, upstream density, downstream density) at scale z, the ends times z, leaves the cells at scale m × z
abbrev pub step_at : ℕ → (ℕ → ℕ → ℕ → ℕ → ℕ) → ℕ → ℕ → ℕ → List ℕ → List ℕ
step_at m G z up down xs = stepped m (G z) (z * up) (z * down) xs

-- the scale of step t, that of step 0 being z
unfoldable pub scale_of : ℕ → ℕ → ℕ → ℕ
scale_of m z zero = z
scale_of m z (suc t) = scale_of m (m * z) t

-- the run of a flow G (step, then as above) from scale z on
abbrev pub ran_at : ℕ → (ℕ → ℕ → ℕ → ℕ → ℕ → ℕ) → ℕ → List ℕ → List ℕ → List ℕ → List ℕ
ran_at m G z = ran (λ t. step_at m (G t) (scale_of m z t))
