-- The loop of `cli_intake::input::filled`: the room keeps its length, what was read lies within it, and each turn leaves less of it.
use Rattle.std.proofs.Common.{length, ◌-◌, ◌≡◌, ◌≤◌}
use Rattle.cli_intake.proofs.input.filled.Given as goal

abbrev pub invariant-loop-end : goal.invariant-loop-end
invariant-loop-end g l = (length l.room ≡ length l.fn.room) × (l.end ≤ length l.room)

abbrev pub decreases-loop-end : goal.decreases-loop-end
decreases-loop-end g l = length l.room - l.end
