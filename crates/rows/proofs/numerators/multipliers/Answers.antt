-- `rows::multipliers` meets its contract: the constant is the definition's table, row by row.
use Rattle.std.proofs.Common.{ap, ℕ, [], get_or}
use Rattle.rows.specs.Rows.{row_table, row_of}
use Rattle.rows.proofs.numerators.multipliers.Goals as goal

pub returns : goal.returns
unfolding row_of row_table
returns c = ap (λ (i : ℕ). get_or row_table i []) c.place.ensures
