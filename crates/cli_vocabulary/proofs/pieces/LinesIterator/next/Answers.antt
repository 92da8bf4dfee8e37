-- The lines that are still to come: the first, up to the next newline, and the others.
use Rattle.std.proofs.Common.{ap, length, arith, rules}
use Rattle.cli_vocabulary.proofs.Marks.{no_lines, next_line}
use Rattle.cli_vocabulary.proofs.pieces.LinesIterator.next.Goals as goal

pub returns-then-is_empty-clause-steps : goal.returns-then-is_empty-clause-steps
returns-then-is_empty-clause-steps c = let none = no_lines c.args.self.now.rest.now (search rules) in (none, none)

pub returns-clause-steps : goal.returns-clause-steps
returns-clause-steps c =
    rw c.past_mark-self.ensures (next_line c.args.self.now.rest.now _ _ (search rules) c.split_before.ensures.front c.split_before.ensures.back)

pub returns-clause-goes : goal.returns-clause-goes
returns-clause-goes c = let steps = returns-clause-steps c in omega (arith, ap length steps)
