-- The status of a run: of several the largest.
use Rattle.std.specs.Prelude.{◌≡◌, ℕ, ◌≤◌}
use Rattle.cli_request.specs.declared.status.Status.{Status}
use Rattle.cli_request.specs.declared.status.Status.TheVariants.{Done, Refused, Text, File}

-- the number that the script reads
abbrev pub digit : Status → ℕ
digit Done = 0
digit Refused = 1
digit Text = 2
digit File = 3

-- no less than either, and one of the two
pub record Worst (a b worst : Status) : Type 0 where
  pub first : digit a ≤ digit worst
  pub second : digit b ≤ digit worst
  pub one : (digit a ≤ digit b → worst ≡ b) × (digit b ≤ digit a → worst ≡ a)

-- the same of numbers, any two
pub record WorstOf (a b worst : ℕ) : Type 0 where
  pub first : a ≤ worst
  pub second : b ≤ worst
  pub one : (a ≤ b → worst ≡ b) × (b ≤ a → worst ≡ a)
