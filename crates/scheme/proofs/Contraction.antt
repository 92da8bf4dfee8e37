-- Contraction: a step with the same ends brings two states no further apart than m times their distance.
use mathlib.Core.Path.{◌≡◌, refl, ap}
use mathlib.Core.List.{List, [], ◌∷◌}
use Prim.Native.Nat.{ℕ, suc, ◌+◌, ◌*◌, ◌≤◌, min, max, zero-le}
use native.Mathlib.Nat.{le_refl, mul-add, min-le_left, min-le_right, le-max_left, le-max_right}
use native.Mathlib.Omega.{arith}
use lib.ListN.{length}
use Rattle.scheme.specs.Advance.{ahead, outflow, entering, leaving, stepped}
use Rattle.scheme.specs.Sums.{sum, gap, distance}
use Rattle.scheme.specs.Partners.{Lawful}
use Rattle.scheme.proofs.Lists.{Pairs, none, one, Any, paired}
use Rattle.scheme.proofs.Balance.{stepped_balance}
use Rattle.scheme.proofs.Monotone.{ahead_ordered, stepped_ordered}

-- the lower and the higher of two lists, cell by cell
lower : List ℕ → List ℕ → List ℕ
lower [] ys = []
lower (x ∷ xs) [] = []
lower (x ∷ xs) (y ∷ ys) = min x y ∷ lower xs ys

higher : List ℕ → List ℕ → List ℕ
higher [] ys = []
higher (x ∷ xs) [] = []
higher (x ∷ xs) (y ∷ ys) = max x y ∷ higher xs ys

-- two lists between two others
record Between (ls xs ys gs : List ℕ) : Type 0 where
  low_left : Pairs ◌≤◌ ls xs
  low_right : Pairs ◌≤◌ ls ys
  high_left : Pairs ◌≤◌ xs gs
  high_right : Pairs ◌≤◌ ys gs
  low_high : Pairs ◌≤◌ ls gs

between : {xs ys : List ℕ} → Pairs Any xs ys → Between (lower xs ys) xs ys (higher xs ys)
unfolding lower higher
between none = record { low_left = none; low_right = none; high_left = none; high_right = none; low_high = none }
between (one {x} {y} a p) =
    let b = between p in
    let low_high : min x y ≤ max x y = omega arith in
    record {
      low_left = one (min-le_left x y) b.low_left;
      low_right = one (min-le_right x y) b.low_right;
      high_left = one (le-max_left x y) b.high_left;
      high_right = one (le-max_right x y) b.high_right;
      low_high = one low_high b.low_high;
    }

sum_higher : {xs ys : List ℕ} → Pairs Any xs ys → sum (higher xs ys) ≡ sum (lower xs ys) + distance xs ys
unfolding lower higher sum distance gap
sum_higher none = refl
sum_higher (one a p) = omega (arith, sum_higher p)

-- two lists between two others are no further apart than those
distance_between : {ls xs ys gs : List ℕ} → Pairs ◌≤◌ ls xs → Pairs ◌≤◌ ls ys → Pairs ◌≤◌ xs gs → Pairs ◌≤◌ ys gs
    → distance xs ys + sum ls ≤ sum gs
unfolding distance gap sum
distance_between none none none none = zero-le
distance_between (one a p) (one b q) (one c r) (one d s) = omega (arith, distance_between p q r s)

module _ {m j c : ℕ} {F : ℕ → ℕ → ℕ → ℕ} (laws : Lawful m j c F) (u d : ℕ) where
  -- a fuller road sends no less over its last face, l and l' being the densities to the list's left
  outflow_ordered : {xs ys : List ℕ} (i l l' : ℕ) → l ≤ l' → Pairs ◌≤◌ xs ys
      → outflow F (suc i) (F i l (ahead d xs)) d xs ≤ outflow F (suc i) (F i l' (ahead d ys)) d ys
  unfolding outflow ahead
  outflow_ordered i l l' h none = (laws i).up l l' d h
  outflow_ordered i l l' h (one {x} {y} e p) = outflow_ordered (suc i) x y e p

  leaving_ordered : {xs ys : List ℕ} → Pairs ◌≤◌ xs ys → leaving F u d xs ≤ leaving F u d ys
  unfolding leaving entering
  leaving_ordered p = outflow_ordered 0 u u (le_refl u) p

  -- and takes no more over its first
  entering_ordered : {xs ys : List ℕ} → Pairs ◌≤◌ xs ys → entering F u d ys ≤ entering F u d xs
  unfolding entering
  entering_ordered {xs} {ys} p = (laws 0).down u (ahead d xs) (ahead d ys) (ahead_ordered (le_refl d) p)

  step : {xs ys : List ℕ} → Pairs ◌≤◌ xs ys → Pairs ◌≤◌ (stepped m F u d xs) (stepped m F u d ys)
  step p = stepped_ordered laws p (le_refl u) (le_refl d)

  -- the steps lie between the steps of the lower and of the higher list, whose sums the balance knows
  stepped_nearer : {xs ys : List ℕ} → Pairs Any xs ys → distance (stepped m F u d xs) (stepped m F u d ys) ≤ m * distance xs ys
  stepped_nearer {xs} {ys} p =
      let l : List ℕ = lower xs ys in
      let g : List ℕ = higher xs ys in
      let b : Between l xs ys g = between p in
      omega (
        arith,
        distance_between (step b.low_left) (step b.low_right) (step b.high_left) (step b.high_right),
        stepped_balance laws u d l,
        stepped_balance laws u d g,
        entering_ordered b.low_high,
        leaving_ordered b.low_high,
        ap (λ (s : ℕ). m * s) (sum_higher p),
        mul-add m (sum l) (distance xs ys),
      )

  pub stepped_contraction : (xs ys : List ℕ) → length xs ≡ length ys
      → distance (stepped m F u d xs) (stepped m F u d ys) ≤ m * distance xs ys
  stepped_contraction xs ys e = stepped_nearer (paired xs ys e)
