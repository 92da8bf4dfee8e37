-- `rows::rows_of` meets its contract: a row for each mode.
use Rattle.std.proofs.Common.{[], ◌∷◌}
use Rattle.rows.specs.Coefficients.{whole_rows}
use Rattle.rows.proofs.numerators.rows_of.Goals as goal

pub returns : goal.returns
unfolding whole_rows
returns c =
    λ i. c.of.ensures i
    ∷ c.of-2.ensures i
    ∷ c.of-3.ensures i
    ∷ c.of-4.ensures i
    ∷ c.of-5.ensures i
    ∷ c.of-6.ensures i
    ∷ c.of-7.ensures i
    ∷ []
