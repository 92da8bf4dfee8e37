-- What the checks "Values" of the refusal table test: a density above J, and the place of the first such.
use Rattle.std.specs.Prelude.{◌≡◌, Bool, true, false, List, [], ◌∷◌, Option, MatchOption, ℕ, suc, ◌≤◌, ◌<◌, ltb, length, get_or}
use Rattle.choice.specs.Choice.{pick}

-- the place, from 0, of the first density above j; the number of densities where none is
unfoldable pub first_index_above : ℕ → List ℕ → ℕ
first_index_above j [] = 0
first_index_above j (x ∷ xs) = pick (ltb j x) 0 (suc (first_index_above j xs))

-- some density is above j
abbrev pub any_above : ℕ → List ℕ → Bool
any_above j xs = ltb (first_index_above j xs) (length xs)

-- what a place that was reported means: the density there is above j, and no earlier one is
pub record FirstAbove (j : ℕ) (xs : List ℕ) (place : ℕ) : Type 0 where
  pub above : j < get_or xs place 0
  pub earlier : (i : ℕ) → i < place → get_or xs i 0 ≤ j

-- what a search for the first such hands back: its place, or none where no density is above j
abbrev pub FoundAbove : ℕ → List ℕ → Option ℕ → Type 0
FoundAbove j xs found = MatchOption found (any_above j xs ≡ false) (λ place. (any_above j xs ≡ true) × (place ≡ first_index_above j xs))
