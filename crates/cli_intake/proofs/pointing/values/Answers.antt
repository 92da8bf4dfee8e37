-- `cli_intake::values` meets its contract: the words are few enough to count.
use Rattle.std.proofs.Common.{inl, arith}
use Rattle.cli_scenario.proofs.Counting.{words_few}
use Rattle.cli_intake.proofs.pointing.values.Goals as goal

pub count-requires-clause-fits : goal.count-requires-clause-fits
count-requires-clause-fits c = inl (omega (arith, words_few c.words.result.rest.now))
