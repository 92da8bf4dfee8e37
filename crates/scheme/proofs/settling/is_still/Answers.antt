-- `scheme::is_still` meets its contract: the ends are compared, and then the inner faces.
use Rattle.std.proofs.Common.{◌≡◌, ◌≢◌, ◌-◌, refl, length, rules, arith}
use Rattle.std.proofs.lemmas.Iterator.{cases_from_all, YieldsList-from_range}
use borrow.Author.Tests.{tests}
use Rattle.scheme.proofs.Stillness.{inner, ends_differ, inner_decide}
use Rattle.scheme.proofs.settling.is_still.Goals as goal

-- the inner faces stand first, and name no test: a wrong test fails there
pub returns : goal.returns
returns c =
    let a = c.args in
    let r = a.pace.road.road in
    inner_decide r a.caps.now a.up a.down a.cells.now a.pace.road.accepted c.requires.some c.flow-first.ensures c.flow-last.ensures (omega arith) c.all.result
    (cases_from_all _ _ _ (λ i. inner r a.caps.now a.up a.down a.cells.now i ≡ c.flow-first.result) (λ i. inner r a.caps.now a.up a.down a.cells.now i ≢ c.flow-first.result)
    c.all.ensures.ran (YieldsList-from_range 0 _ (length a.cells.now - 1) refl (omega arith))
    (λ x q k. search (rules, tests)) (λ x q k. search (rules, tests)))

pub returns-then-last-first : goal.returns-then-last-first
returns-then-last-first c =
    let a = c.args in
    ends_differ a.pace.road.road a.caps.now a.up a.down a.cells.now a.pace.road.accepted c.requires.some c.flow-first.ensures c.flow-last.ensures c.if-last-first.true
