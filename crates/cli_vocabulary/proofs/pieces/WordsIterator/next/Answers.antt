-- The words that are still to come: none where only blanks are left, or the first, up to the next blank, and the others.
use Rattle.std.proofs.Common.{sym, ap, length, arith}
use Rattle.cli_vocabulary.proofs.Marks.{no_words, next_word}
use Rattle.cli_vocabulary.proofs.pieces.WordsIterator.next.Goals as goal

pub returns-in_err-start-clause-steps : goal.returns-in_err-start-clause-steps
returns-in_err-start-clause-steps c =
    let none = no_words c.args.self.now.rest.now (sym c.in_err-start.ensures) in
    rw c.from_residual.ensures (none, none)

pub returns-clause-steps : goal.returns-clause-steps
returns-clause-steps c =
    next_word c.args.self.now.rest.now _ _ c.in_ok-start.start (sym c.in_ok-start.ensures) c.split_before.ensures.front c.split_before.ensures.back

pub returns-clause-goes : goal.returns-clause-goes
returns-clause-goes c = let steps = returns-clause-steps c in omega (arith, ap length steps)
