-- The loop counts those before the index.
use Rattle.std.proofs.Common.{◌≡◌, take}
use lib.Dec.{ltb}
use Rattle.std.specs.List.{count_by}
use Rattle.modes.proofs.tallying.queued.Given as goal

abbrev pub invariant-loop-cell : goal.invariant-loop-cell
invariant-loop-cell l = l.queued ≡ count_by (ltb l.critical) (take l.cell-index l.state.cells.now)
