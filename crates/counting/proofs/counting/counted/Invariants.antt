-- The loop of `counting::counted` keeps `Turning`.
use Rattle.counting.proofs.Turning.{Turning}
use Rattle.counting.proofs.counting.counted.Given as goal

abbrev pub invariant-loop : goal.invariant-loop
invariant-loop l = Turning l.cells l.words l.counter
