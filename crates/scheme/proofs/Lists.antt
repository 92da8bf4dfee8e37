-- Facts on lists of numbers: the test that compares them, two lists side by side, their order, distances and multiples.
use mathlib.Core.Path.{◌≡◌, refl, ap, ap₂, sym}
use mathlib.Core.Bool.{true, false≢true}
use mathlib.Core.List.{List, [], ◌∷◌}
use Prim.Native.Nat.{ℕ, zero, suc, ◌+◌, ◌-◌, ◌*◌, ◌≤◌, zero-le}
use native.Mathlib.Nat.{suc_inj, mul-zero, mul-add, mul-sub, mul_assoc, one-mul}
use native.Mathlib.Omega.{arith}
use lib.Dec.{eqb}
use lib.ListN.{length, get_or}
use borrow.Author.Tests.{eqb-true, eq-eqb}
use Rattle.choice.proofs.Choice.{both_first, both_second}
use Rattle.scheme.specs.Sums.{gap, distance, times, same_list, NoMore}

-- two lists that the test finds the same are the same
pub same_lists : (xs ys : List ℕ) → same_list xs ys ≡ true → xs ≡ ys
unfolding same_list
same_lists [] [] e = refl
same_lists [] (y ∷ ys) e = absurd (false≢true e)
same_lists (x ∷ xs) [] e = absurd (false≢true e)
same_lists (x ∷ xs) (y ∷ ys) e = ap₂ ◌∷◌ (eqb-true x y (both_first (eqb x y) (same_list xs ys) e)) (same_lists xs ys (both_second (eqb x y) (same_list xs ys) e))

pub lists_same : (xs : List ℕ) → same_list xs xs ≡ true
unfolding same_list
lists_same [] = refl
lists_same (x ∷ xs) = rw (eq-eqb x x refl) (lists_same xs)

-- two lists of one length, R holding of each cell of the first and the same cell of the second
pub data Pairs (R : ℕ → ℕ → Type 0) : List ℕ → List ℕ → Type 0 where
  none : Pairs R [] []
  one : {x y : ℕ} {xs ys : List ℕ} → R x y → Pairs R xs ys → Pairs R (x ∷ xs) (y ∷ ys)

-- the relation of any two numbers: then only the lengths agree
abbrev pub Any : ℕ → ℕ → Type 0
Any x y = Unit {0}

pub paired : (xs ys : List ℕ) → length xs ≡ length ys → Pairs Any xs ys
paired [] [] e = none
paired [] (y ∷ ys) e = absurd (omega arith)
paired (x ∷ xs) [] e = absurd (omega arith)
paired (x ∷ xs) (y ∷ ys) e = one tt (paired xs ys (suc_inj e))

pub pairs_length : {R : ℕ → ℕ → Type 0} {xs ys : List ℕ} → Pairs R xs ys → length xs ≡ length ys
pairs_length none = refl
pairs_length (one h t) = ap suc (pairs_length t)

-- the order of the specs, side by side, and back
pub ordered : {xs ys : List ℕ} → NoMore xs ys → Pairs ◌≤◌ xs ys
ordered {xs} {ys} h = go xs ys h.long h.each
  where
    go : (xs ys : List ℕ) → length xs ≡ length ys → ((i : ℕ) → get_or xs i 0 ≤ get_or ys i 0) → Pairs ◌≤◌ xs ys
    go [] [] e h = none
    go [] (y ∷ ys) e h = absurd (omega arith)
    go (x ∷ xs) [] e h = absurd (omega arith)
    go (x ∷ xs) (y ∷ ys) e h = one (h 0) (go xs ys (suc_inj e) (λ i. h (suc i)))

-- what holds of 0 and 0 too holds at every place, for past the ends stands 0
pub pairs_at : {R : ℕ → ℕ → Type 0} {xs ys : List ℕ} → R 0 0 → Pairs R xs ys → (i : ℕ) → R (get_or xs i 0) (get_or ys i 0)
pairs_at z none i = z
pairs_at z (one h t) zero = h
pairs_at z (one h t) (suc i) = pairs_at z t i

pub no_more : {xs ys : List ℕ} → Pairs ◌≤◌ xs ys → NoMore xs ys
no_more p = record { long = pairs_length p; each = pairs_at zero-le p }

-- the distance: 0 from itself, and no shorter through a third list
pub distance_self : (xs : List ℕ) → distance xs xs ≡ 0
unfolding distance gap
distance_self [] = refl
distance_self (x ∷ xs) = omega (arith, distance_self xs)

triangle : {xs ys zs : List ℕ} → Pairs Any xs ys → Pairs Any ys zs → distance xs zs ≤ distance xs ys + distance ys zs
unfolding distance gap
triangle none none = zero-le
triangle (one a p) (one b q) = omega (arith, triangle p q)

pub distance_triangle : (xs ys zs : List ℕ) → length xs ≡ length ys → length ys ≡ length zs
    → distance xs zs ≤ distance xs ys + distance ys zs
distance_triangle xs ys zs p q = triangle (paired xs ys p) (paired ys zs q)

-- multiples: their length, scale and distance
pub times_length : (k : ℕ) (xs : List ℕ) → length (times k xs) ≡ length xs
unfolding times
times_length k [] = refl
times_length k (x ∷ xs) = ap suc (times_length k xs)

pub times_one : (xs : List ℕ) → times 1 xs ≡ xs
unfolding times
times_one [] = refl
times_one (x ∷ xs) = cc (one-mul x, times_one xs)

pub times_times : (a b : ℕ) (xs : List ℕ) → times (a * b) xs ≡ times a (times b xs)
unfolding times
times_times a b [] = refl
times_times a b (x ∷ xs) = cc (mul_assoc a b x, times_times a b xs)

gap_times : (k x y : ℕ) → gap (k * x) (k * y) ≡ k * gap x y
unfolding gap
gap_times k x y = omega (arith, mul-add k (x - y) (y - x), mul-sub k x y, mul-sub k y x)

pub times_distance : (k : ℕ) (xs ys : List ℕ) → distance (times k xs) (times k ys) ≡ k * distance xs ys
unfolding times distance
times_distance k [] ys = sym (mul-zero k)
times_distance k (x ∷ xs) [] = sym (mul-zero k)
times_distance k (x ∷ xs) (y ∷ ys) =
    omega (arith, gap_times k x y, times_distance k xs ys, mul-add k (gap x y) (distance xs ys))
