-- `checks::judged_pair` meets its contract: each test is that of its check, and the first that holds refuses.
use Rattle.std.proofs.Common.{refl}
use Rattle.refusal.specs.Table.{or_if}
use Rattle.checks.proofs.Checks.{end_above, end_within}
use Rattle.checks.proofs.states.judged_pair.Goals as goal

pub returns-in-Some : goal.returns-in-Some
unfolding or_if
returns-in-Some c = let (above, at) = c.in-Some.ensures in rw (above, at) refl

pub returns-then-up_is_high : goal.returns-then-up_is_high
unfolding or_if
returns-then-up_is_high c = let (above, at) = end_above c.if-up_is_high.true in rw (c.in_default.ensures, above, at) refl

pub returns-then-down_is_high : goal.returns-then-down_is_high
unfolding or_if
returns-then-down_is_high c =
    let (above, at) = end_above c.if-down_is_high.true in
    rw (c.in_default.ensures, end_within c.if-up_is_high.false, above, at) refl

pub returns : goal.returns
unfolding or_if
returns c = rw (c.in_default.ensures, end_within c.if-up_is_high.false, end_within c.if-down_is_high.false) refl
