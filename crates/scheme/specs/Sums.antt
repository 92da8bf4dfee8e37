-- Sums, bounds, distances and comparisons of lists of numbers.
use Rattle.std.specs.Prelude.{◌≡◌, Bool, true, false, List, [], ◌∷◌, ℕ, ◌+◌, ◌-◌, ◌*◌, ◌≤◌, eqb, length, get_or}
use Rattle.choice.specs.Choice.{both}

-- the sum of the cells
unfoldable pub sum : List ℕ → ℕ
sum [] = 0
sum (x ∷ xs) = x + sum xs

-- the size of the difference of two numbers
unfoldable pub gap : ℕ → ℕ → ℕ
gap x y = (x - y) + (y - x)

-- the summed distance of two lists, cell by cell
unfoldable pub distance : List ℕ → List ℕ → ℕ
distance [] ys = 0
distance (x ∷ xs) [] = 0
distance (x ∷ xs) (y ∷ ys) = gap x y + distance xs ys

-- each number k times
unfoldable pub times : ℕ → List ℕ → List ℕ
times k [] = []
times k (x ∷ xs) = k * x ∷ times k xs

-- two lists number by number
unfoldable pub same_list : List ℕ → List ℕ → Bool
same_list [] [] = true
same_list [] (y ∷ ys) = false
same_list (x ∷ xs) [] = false
same_list (x ∷ xs) (y ∷ ys) = both (eqb x y) (same_list xs ys)

-- every density from 0 to j
abbrev pub Below : ℕ → List ℕ → Type 0
Below j xs = (i : ℕ) → get_or xs i 0 ≤ j

-- as long, and nowhere higher
pub record NoMore (xs ys : List ℕ) : Type 0 where
  pub long : length xs ≡ length ys
  pub each : (i : ℕ) → get_or xs i 0 ≤ get_or ys i 0
