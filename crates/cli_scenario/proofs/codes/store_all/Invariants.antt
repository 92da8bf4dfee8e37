-- The values stored, midway: those of the words that are left are still to be stored.
use Rattle.cli_vocabulary.specs.Pieces.{words_in}
use Rattle.cli_scenario.specs.Codes.{all_values}
use Rattle.cli_scenario.proofs.Storing.{ValuesStored}
use Rattle.cli_scenario.proofs.codes.store_all.Given as goal

abbrev pub invariant-loop-word : goal.invariant-loop-word
invariant-loop-word l =
    ValuesStored (all_values l.code (words_in l.word-iterator.rest.now)) (all_values l.code (words_in l.fn.words.rest.now)) l.fn.filled l.fn.out l.out l.filled
