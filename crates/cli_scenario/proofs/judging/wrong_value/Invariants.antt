-- Nothing is wrong with the words before: what is wrong first is among the others.
use Rattle.std.proofs.Common.{◌≡◌}
use Rattle.cli_vocabulary.specs.Pieces.{words_in}
use Rattle.cli_scenario.specs.Judging.{wrong_value}
use Rattle.cli_scenario.proofs.judging.wrong_value.Given as goal

abbrev pub invariant-loop-word : goal.invariant-loop-word
invariant-loop-word l = wrong_value l.key (words_in l.word-iterator.rest.now) ≡ wrong_value l.key (words_in l.fn.words.rest.now)
