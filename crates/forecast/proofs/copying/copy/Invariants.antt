-- The loop of `forecast::copy` keeps `Copied`.
use Rattle.forecast.proofs.Copied.{Copied}
use Rattle.forecast.proofs.copying.copy.Given as goal

abbrev pub invariant-loop-i : goal.invariant-loop-i
invariant-loop-i l = Copied l.cells l.out l.i
