-- `counting::count` meets its contract: refused above the ceiling, otherwise counted.
use Rattle.std.proofs.Common.{sym, ap}
use Rattle.refusal.specs.Outcome.{Outcome}
use Rattle.refusal.proofs.Calls.{checked}
use Rattle.counting.proofs.CountAnswers.{count_call, told, done}
use Rattle.counting.proofs.counting.count.Goals as goal

pub returns-in_err-judged : goal.returns-in_err-judged
returns-in_err-judged c = told c.args.cells c.in_err-judged.field-0.0 c.in_err-judged.ensures c.from_residual.result c.from_residual.ensures.1

-- past the `?` nothing is refused
pub counted-requires : goal.counted-requires
counted-requires c = checked (count_call c.args.cells) (sym (ap (λ (o : Outcome). o.number) c.in_ok-judged.ensures))

pub returns : goal.returns
returns c = done c.args.cells (sym (ap (λ (o : Outcome). o.number) c.in_ok-judged.ensures)) c.counted.result c.counted.ensures
