-- `checks::first_above` meets its contract: nothing before the place is above jam.
use Rattle.std.proofs.Common.{rules, ◌<◌, ◌≤◌}
use Rattle.std.proofs.lemmas.Iterator.{IsFirst-from_position, YieldsList-from_slice}
use borrow.Author.Tests.{tests}
use Rattle.checks.proofs.First.{found_above}
use Rattle.checks.proofs.values.first_above.Goals as goal

pub returns : goal.returns
returns c =
    found_above c.args.jam c.args.xs.now c.position.result
    (IsFirst-from_position _ _ _ (λ x. c.args.jam < x) (λ x. x ≤ c.args.jam) c.position.ensures.ran (YieldsList-from_slice c.args.xs.now c.iter.ensures.rest)
    (λ x q k. search (rules, tests)) (λ x q k. search (rules, tests)))
