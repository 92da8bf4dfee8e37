-- `modes::count_of` meets its contract: at the end all are counted.
use Rattle.modes.proofs.Counted.{modes_counted}
use Rattle.modes.proofs.tallying.count_of.Goals as goal

pub returns : goal.returns
returns c = rw (← c.code-code.ensures) (modes_counted _ c.args.modes.now c.loop-m.invariant c.loop-m-test.false)
