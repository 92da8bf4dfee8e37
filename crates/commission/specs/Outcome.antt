-- What a public call did with its input, in one form for every call.
use Rattle.std.specs.Prelude.{List, ℕ}
use Rattle.refusal.specs.Table.{Check}
use Rattle.refusal.specs.Outcome.{Outcome as Refusal}

-- its checks of the refusal table and their numbers, what an input is that no check refuses, what its places mean, the refusal that came back (number 0 for none), that
-- every output holds its former contents, and that it answered as an accepted call does (Done; for C a flag is 0 or 1)
pub record Outcome : Type 1 where
  pub checks : List Check
  pub numbers : List ℕ
  pub Checked : Type 0
  pub Placed : Refusal → Type 0
  pub refusal : Refusal
  pub Kept : Type 0
  pub Made : Type 0
