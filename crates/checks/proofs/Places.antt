-- The places of 9, 10 and 11 that a table returns: the density there is above jam, and no earlier one is.
use mathlib.Core.Path.{◌≡◌, sym}
use mathlib.Core.Bool.{true}
use mathlib.Core.List.{List}
use Prim.Native.Nat.{ℕ, ◌+◌}
use Rattle.road.specs.declared.Road.{Road}
use Rattle.refusal.specs.Outcome.{Outcome}
use Rattle.checks.specs.Values.{first_index_above, any_above, FirstAbove}
use Rattle.checks.specs.Places.{Placed}
use Rattle.checks.proofs.First.{first_above}

-- a list's check that was returned: its condition holds, and its place is the one returned
listed : (j : ℕ) (xs : List ℕ) {q : ℕ} → (any_above j xs ≡ true) × (first_index_above j xs ≡ q) → FirstAbove j xs q
listed j xs (holds, same) = rw same at (first_above j xs holds)

-- the places of a call with these checks, as they were returned: the cells are numbered from 1, the ends from 0
pub values_placed : (r : Road) (cells ups downs : List ℕ) (f : Outcome)
    → (f.number ≡ 9 → (any_above r.jam cells ≡ true) × (first_index_above r.jam cells + 1 ≡ f.place))
    → (f.number ≡ 10 → (any_above r.jam ups ≡ true) × (first_index_above r.jam ups ≡ f.place))
    → (f.number ≡ 11 → (any_above r.jam downs ≡ true) × (first_index_above r.jam downs ≡ f.place)) → Placed r cells ups downs f
values_placed r cells ups downs f nine ten eleven = record {
  cell = λ e. let (holds, same) = nine e in (first_index_above r.jam cells, sym same, first_above r.jam cells holds);
  up = λ e. listed r.jam ups (ten e);
  down = λ e. listed r.jam downs (eleven e);
}
