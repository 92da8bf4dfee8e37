-- `cli_scenario::codes::store_all` meets its contract: the loop keeps `ValuesStored` for the words that are left.
use Rattle.std.proofs.Common.{sym, refl}
use Rattle.cli_scenario.specs.Codes.{all_values}
use Rattle.cli_scenario.proofs.Storing.{turns, ends}
use Rattle.cli_scenario.proofs.codes.store_all.Goals as goal

pub loop-word-preserved-in-Ok : goal.loop-word-preserved-in-Ok
unfolding all_values
loop-word-preserved-in-Ok c =
    turns c.loop-word.invariant _ _ _ _ (rw (c.in-Some.ensures.steps, sym c.in-Ok.ensures) refl) c.append-filled.ensures

-- a wrong word has no values
pub loop-word-preserved : goal.loop-word-preserved
unfolding all_values
loop-word-preserved c = rw (c.in-Some.ensures.steps, sym c.in_default.ensures) at c.loop-word.invariant

pub returns : goal.returns
unfolding all_values
returns c = ends c.loop-word.invariant (rw c.in-None.ensures.steps.0 refl)
