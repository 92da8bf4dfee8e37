-- What a refusal table comes to, as document 01 tells it.
use Rattle.std.specs.Prelude.{ℕ}

-- a refusal's number and place; number 0 says that nothing is refused
pub record Outcome : Type 0 where
  pub number : ℕ
  pub place : ℕ
