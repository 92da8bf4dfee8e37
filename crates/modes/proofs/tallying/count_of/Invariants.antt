-- The loop counts those before the index.
use Rattle.std.proofs.Common.{◌≡◌, take}
use lib.Dec.{eqb}
use Rattle.std.specs.List.{count_by}
use Rattle.modes.proofs.tallying.count_of.Given as goal

abbrev pub invariant-loop-m : goal.invariant-loop-m
invariant-loop-m l = l.count ≡ count_by (λ m. eqb m l.code) (take l.m-index l.modes)
