-- The values stored, midway: those of the lines that are left are still to be stored.
use Rattle.cli_vocabulary.specs.Pieces.{lines}
use Rattle.cli_scenario.specs.Codes.{gathered, values_of}
use Rattle.cli_scenario.proofs.Storing.{ValuesStored}
use Rattle.cli_scenario.proofs.codes.values.Given as goal

abbrev pub invariant-loop-line : goal.invariant-loop-line
invariant-loop-line l = ValuesStored (gathered l.code (lines l.line-iterator.rest.now)) (values_of l.code l.text) 0 l.fn.out l.out l.filled
