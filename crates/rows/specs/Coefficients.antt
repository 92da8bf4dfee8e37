-- The rows of the modes on a road: three coefficients and a constant, in whole numbers (document 01, "Seven modes").
use Rattle.std.specs.Prelude.{List, [], ◌∷◌, ℕ, ◌*◌, ◌≤◌, ℤ, pos, nat_abs, ◌+ℤ◌, ◌*ℤ◌, get_or}
use Rattle.road.specs.Ceilings.{divisor_ceiling, jam_ceiling}
use Rattle.road.specs.declared.Road.{Road}
use Rattle.rows.specs.Rows.{row_of}
use Rattle.rows.specs.declared.numerators.WholeRow.{WholeRow}

-- the table's multiplier of a mode in a column
abbrev pub entry : ℕ → ℕ → ℤ
entry mode column = get_or (row_of mode) column (pos 0)

-- what a row's value multiplies left, own and right by, and what it adds, in whole numbers. Each row also has D × own
unfoldable pub left_coefficient : Road → ℕ → ℤ
left_coefficient r mode = entry mode 0 *ℤ pos r.free

unfoldable pub own_coefficient : Road → ℕ → ℤ
own_coefficient r mode = pos r.divisor +ℤ entry mode 1 *ℤ pos r.free +ℤ entry mode 2 *ℤ pos r.wave

unfoldable pub right_coefficient : Road → ℕ → ℤ
right_coefficient r mode = entry mode 3 *ℤ pos r.wave

unfoldable pub constant_of : Road → ℕ → ℤ
constant_of r mode =
    entry mode 4 *ℤ pos (r.wave * r.critical) +ℤ entry mode 5 *ℤ pos (r.free * r.critical) +ℤ entry mode 6 *ℤ pos (r.wave * r.jam)

unfoldable pub whole_row_of : Road → ℕ → WholeRow
whole_row_of r mode = record {
  left = left_coefficient r mode;
  own = own_coefficient r mode;
  right = right_coefficient r mode;
  constant = constant_of r mode;
}

-- the rows of the modes 1 to 7
unfoldable pub whole_rows : Road → List WholeRow
whole_rows r =
    whole_row_of r 1 ∷ whole_row_of r 2 ∷ whole_row_of r 3 ∷ whole_row_of r 4 ∷ whole_row_of r 5 ∷ whole_row_of r 6 ∷ whole_row_of r 7 ∷ []

-- a row applied to a cell's density and its neighbours'
unfoldable pub applied_to : WholeRow → ℕ → ℕ → ℕ → ℤ
applied_to row left own right = pos left *ℤ row.left +ℤ pos own *ℤ row.own +ℤ pos right *ℤ row.right +ℤ row.constant

-- how large a row's numbers are on an accepted road
pub record Sized (row : WholeRow) : Type 0 where
  pub left_small : nat_abs row.left ≤ divisor_ceiling
  pub own_small : nat_abs row.own ≤ 3 * divisor_ceiling
  pub right_small : nat_abs row.right ≤ divisor_ceiling
  pub constant_small : nat_abs row.constant ≤ 3 * (divisor_ceiling * jam_ceiling)
