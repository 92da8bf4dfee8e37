-- Runs of any lawful flow, by step and face: length, range, balance, monotonicity and contraction; and one step more of a run.
use mathlib.Core.Path.{◌≡◌, refl, sym, ◌∙◌}
use mathlib.Core.List.{List, [], ◌∷◌}
use Prim.Native.Nat.{ℕ, zero, suc, ◌+◌, ◌*◌, ◌^◌, ◌≤◌, ◌<◌}
use native.Mathlib.Nat.{le_refl, one-mul, mul_assoc, pow-zero, pow-suc, suc_inj, not-suc-le-zero, le_of_suc-le-suc}
use native.Mathlib.Omega.{arith}
use lib.ListN.{length, get_or, take}
use Rattle.scheme.specs.Advance.{stepped}
use Rattle.scheme.specs.Sums.{sum, distance, Below, NoMore}
use Rattle.scheme.specs.Runs.{ran, summed, reached, ran_by, entered_by, left_by, step_at, scale_of, ran_at}
use Rattle.scheme.specs.Partners.{Lawful, AlwaysLawful}
use Rattle.scheme.proofs.Lists.{Pairs, none, one, ordered, no_more}
use Rattle.scheme.proofs.Shape.{stepped_length}
use Rattle.scheme.proofs.Range.{stepped_below, steps_below}
use Rattle.scheme.proofs.Balance.{stepped_balance}
use Rattle.scheme.proofs.Monotone.{stepped_ordered}
use Rattle.scheme.proofs.Contraction.{stepped_contraction}

-- what every step keeps, a run keeps
ran_keeps : (S : ℕ → ℕ → ℕ → List ℕ → List ℕ) (P : List ℕ → Type 0) → ((t u d : ℕ) (xs : List ℕ) → P xs → P (S t u d xs))
    → (ups downs xs : List ℕ) → P xs → P (ran S ups downs xs)
unfolding ran
ran_keeps S P step [] downs xs h = h
ran_keeps S P step (u ∷ ups) [] xs h = h
ran_keeps S P step (u ∷ ups) (d ∷ downs) xs h = ran_keeps (λ t. S (suc t)) P (λ t. step (suc t)) ups downs (S 0 u d xs) (step 0 u d xs h)

pub ran_length : (S : ℕ → ℕ → ℕ → List ℕ → List ℕ) → ((t u d : ℕ) (xs : List ℕ) → length (S t u d xs) ≡ length xs)
    → (ups downs xs : List ℕ) → length (ran S ups downs xs) ≡ length xs
ran_length S long ups downs xs = ran_keeps S (λ ys. length ys ≡ length xs) (λ t u d ys e. long t u d ys ∙ e) ups downs xs refl

-- one step more, from the state that the steps before reached
pub ran_more : (S : ℕ → ℕ → ℕ → List ℕ → List ℕ) (k : ℕ) (ups downs xs : List ℕ) → k < length ups → k < length downs
    → reached S (suc k) ups downs xs ≡ S k (get_or ups k 0) (get_or downs k 0) (reached S k ups downs xs)
unfolding ran
ran_more S k [] downs xs h g = absurd (not-suc-le-zero h)
ran_more S k (u ∷ ups) [] xs h g = absurd (not-suc-le-zero g)
ran_more S zero (u ∷ ups) (d ∷ downs) xs h g = refl
ran_more S (suc k) (u ∷ ups) (d ∷ downs) xs h g =
    ran_more (λ t. S (suc t)) k ups downs (S 0 u d xs) (le_of_suc-le-suc h) (le_of_suc-le-suc g)

pub summed_more : (S : ℕ → ℕ → ℕ → List ℕ → List ℕ) (f : ℕ → ℕ → ℕ → List ℕ → ℕ) (k : ℕ) (ups downs xs : List ℕ) → k < length ups → k < length downs
    → summed S f (take (suc k) ups) (take (suc k) downs) xs
    ≡ summed S f (take k ups) (take k downs) xs + f k (get_or ups k 0) (get_or downs k 0) (reached S k ups downs xs)
unfolding ran summed
summed_more S f k [] downs xs h g = absurd (not-suc-le-zero h)
summed_more S f k (u ∷ ups) [] xs h g = absurd (not-suc-le-zero g)
summed_more S f zero (u ∷ ups) (d ∷ downs) xs h g = omega arith
summed_more S f (suc k) (u ∷ ups) (d ∷ downs) xs h g =
    omega (arith, summed_more (λ t. S (suc t)) (λ t. f (suc t)) k ups downs (S 0 u d xs) (le_of_suc-le-suc h) (le_of_suc-le-suc g))

pub run_below : {F : ℕ → ℕ → ℕ → ℕ → ℕ} {j c : ℕ} → AlwaysLawful 1 j c F → (ups downs xs : List ℕ) → Below j xs → Below j (ran_by 1 F ups downs xs)
run_below {F} {j} laws = ran_keeps (λ t. stepped 1 (F t)) (Below j) (λ t. steps_below (laws t))

-- no unit is made or lost
pub run_balance : {F : ℕ → ℕ → ℕ → ℕ → ℕ} {j c : ℕ} → AlwaysLawful 1 j c F → (ups downs xs : List ℕ)
    → sum xs + entered_by 1 F ups downs xs ≡ sum (ran_by 1 F ups downs xs) + left_by 1 F ups downs xs
unfolding ran summed
run_balance laws [] downs xs = refl
run_balance laws (u ∷ ups) [] xs = refl
run_balance {F} laws (u ∷ ups) (d ∷ downs) xs =
    omega (arith, stepped_balance (laws 0) u d xs, run_balance (λ t. laws (suc t)) ups downs (stepped 1 (F 0) u d xs))

run_ordered : {F : ℕ → ℕ → ℕ → ℕ → ℕ} {m j c : ℕ} → AlwaysLawful m j c F → {ups ups' downs downs' xs ys : List ℕ} → Pairs ◌≤◌ ups ups' → Pairs ◌≤◌ downs downs' → Pairs ◌≤◌ xs ys
    → Pairs ◌≤◌ (ran_by m F ups downs xs) (ran_by m F ups' downs' ys)
unfolding ran
run_ordered laws none e p = p
run_ordered laws (one u us) none p = p
run_ordered {F = F} laws (one u us) (one d ds) p = run_ordered {F = λ t. F (suc t)} (λ t. laws (suc t)) us ds (stepped_ordered (laws 0) p u d)

pub run_monotone : {F : ℕ → ℕ → ℕ → ℕ → ℕ} {m j c : ℕ} → AlwaysLawful m j c F → {ups ups' downs downs' xs ys : List ℕ} → NoMore ups ups' → NoMore downs downs' → NoMore xs ys
    → NoMore (ran_by m F ups downs xs) (ran_by m F ups' downs' ys)
run_monotone laws u d h = no_more (run_ordered laws (ordered u) (ordered d) (ordered h))

pub run_contraction : {F : ℕ → ℕ → ℕ → ℕ → ℕ} {j c : ℕ} → AlwaysLawful 1 j c F → (ups downs xs ys : List ℕ) → length xs ≡ length ys
    → distance (ran_by 1 F ups downs xs) (ran_by 1 F ups downs ys) ≤ distance xs ys
unfolding ran
run_contraction laws [] downs xs ys e = le_refl (distance xs ys)
run_contraction laws (u ∷ ups) [] xs ys e = le_refl (distance xs ys)
run_contraction {F} laws (u ∷ ups) (d ∷ downs) xs ys e =
    let next = run_contraction (λ t. laws (suc t)) ups downs (stepped 1 (F 0) u d xs) (stepped 1 (F 0) u d ys) (simp (stepped_length, e)) in
    omega (arith, next, stepped_contraction (laws 0) u d xs ys e)

-- a power of m in front of a scale takes in the m that a step multiplies the scale by
pub power_scale : (m n z : ℕ) → m ^ n * (m * z) ≡ m ^ suc n * z
power_scale m n z = sym (mul_assoc (m ^ n) m z) ∙ rw pow-suc

-- at scale z, of flows lawful at every scale
pub scaled_below : {G : ℕ → ℕ → ℕ → ℕ → ℕ → ℕ} {m : ℕ} (j c : ℕ) → ((t z : ℕ) → Lawful m (z * j) (z * c) (G t z))
    → (z : ℕ) (ups downs xs : List ℕ) → length ups ≡ length downs → Below (z * j) xs → Below (m ^ length ups * (z * j)) (ran_at m G z ups downs xs)
unfolding ran scale_of
scaled_below j c laws z [] downs xs e h i = rw (pow-zero, one-mul) (h i)
scaled_below j c laws z (u ∷ ups) [] xs e h i = absurd (omega arith)
scaled_below {G} {m} j c laws z (u ∷ ups) (d ∷ downs) xs e h i =
    let next : Below (m * z * j) (step_at m (G 0) z u d xs) = rw mul_assoc (stepped_below (laws 0 z) (z * u) (z * d) xs h) in
    rw (mul_assoc, power_scale) at (scaled_below j c (λ t. laws (suc t)) (m * z) ups downs (step_at m (G 0) z u d xs) (suc_inj e) next i)
