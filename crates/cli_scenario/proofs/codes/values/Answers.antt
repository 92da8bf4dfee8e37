-- `cli_scenario::codes::values` meets its contract: the loop keeps `ValuesStored` for the lines that are left.
use Rattle.std.proofs.Common.{refl, zero-le}
use Rattle.cli_scenario.specs.Codes.{gathered, values_of}
use Rattle.cli_scenario.proofs.Storing.{begins, turns, ends}
use Rattle.cli_scenario.proofs.codes.values.Goals as goal

pub loop-line-init : goal.loop-line-init
loop-line-init c =
    rw (c.into_iter-line-iterator.ensures.into_iter_gives, c.of-line-items.ensures) (begins (values_of c.args.code c.args.text.now) c.args.out.now 0 zero-le)

pub loop-line-preserved : goal.loop-line-preserved
unfolding gathered
loop-line-preserved c = turns c.loop-line.invariant _ _ _ _ (rw c.in-Some.ensures.steps refl) c.store_given-filled.ensures

pub returns : goal.returns
unfolding gathered
returns c = ends c.loop-line.invariant (rw c.in-None.ensures.steps.0 refl)
