-- `forecast::judged_values` meets its contract: each test is that of its check, and the first that holds refuses.
use Rattle.std.proofs.Common.{refl}
use Rattle.refusal.specs.Table.{or_if}
use Rattle.forecast.proofs.values.judged_values.Goals as goal

pub returns-in-Some : goal.returns-in-Some
unfolding or_if
returns-in-Some c = let (above, at) = c.in-Some.ensures in rw (above, at) refl

pub returns-in-Some-first_above : goal.returns-in-Some-first_above
unfolding or_if
returns-in-Some-first_above c = let (above, at) = c.in-Some-first_above.ensures in rw (c.in_default.ensures, above, at) refl

pub returns-in-Some-first_above-2 : goal.returns-in-Some-first_above-2
unfolding or_if
returns-in-Some-first_above-2 c =
    let (above, at) = c.in-Some-first_above-2.ensures in
    rw (c.in_default.ensures, c.in_default-first_above.ensures, above, at) refl

pub returns : goal.returns
unfolding or_if
returns c = rw (c.in_default.ensures, c.in_default-first_above.ensures, c.in_default-first_above-2.ensures) refl
