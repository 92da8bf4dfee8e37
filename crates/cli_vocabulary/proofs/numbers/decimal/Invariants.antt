-- A number midway through its digits.
use Rattle.cli_vocabulary.proofs.Decimal.{Writing}
use Rattle.cli_vocabulary.proofs.numbers.decimal.Given as goal

abbrev pub invariant-loop-b : goal.invariant-loop-b
invariant-loop-b l = Writing l.word l.most l.value l.b-index
