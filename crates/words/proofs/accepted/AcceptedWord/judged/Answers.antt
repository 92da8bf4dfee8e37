-- `words::AcceptedWord::judged` meets its contract: a refusal of the state stands, and below it the word is judged.
use Rattle.std.proofs.Common.{[], ◌∷◌, length}
use Rattle.refusal.specs.Table.{check}
use Rattle.refusal.proofs.Results.{err_told, refusal_stands}
use Rattle.refusal.proofs.Parts.{part_goes_on}
use Rattle.checks.specs.State.{state_checks, state_refusal}
use Rattle.words.specs.Judging.{word_check, state_word_refusal}
use Rattle.words.proofs.WordCheck.{word_passed, word_long, word_legal}
use Rattle.words.proofs.accepted.AcceptedWord.judged.Goals as goal

pub returns-in_err-state-clause-refusal : goal.returns-in_err-state-clause-refusal
unfolding state_word_refusal state_refusal
returns-in_err-state-clause-refusal c =
    let a = c.args in
    err_told c.in_err-state.field-0.0 c.from_residual.result c.from_residual.ensures.1
    (refusal_stands c.in_err-state.field-0.0 (state_checks a.road a.cells.now a.up a.down (check a.bad 8 0 ∷ [])) (word_check (length a.cells.now) a.word.now ∷ [])
    c.in_err-state.ensures.refusal)

pub returns-in_err-judged_word-clause-refusal : goal.returns-in_err-judged_word-clause-refusal
unfolding state_word_refusal state_refusal
returns-in_err-judged_word-clause-refusal c =
    let a = c.args in
    err_told c.in_err-judged_word.field-0.0 c.from_residual-in_err-judged_word.result c.from_residual-in_err-judged_word.ensures.1
    (part_goes_on (state_checks a.road a.cells.now a.up a.down (check a.bad 8 0 ∷ [])) (word_check (length a.cells.now) a.word.now ∷ [])
    c.in_ok-state.ensures.refusal c.in_err-judged_word.ensures)

pub returns-clause-refusal : goal.returns-clause-refusal
unfolding state_word_refusal state_refusal
returns-clause-refusal c =
    let a = c.args in
    part_goes_on (state_checks a.road a.cells.now a.up a.down (check a.bad 8 0 ∷ [])) (word_check (length a.cells.now) a.word.now ∷ [])
    c.in_ok-state.ensures.refusal c.in_ok-judged_word.ensures

pub invariant_of-result : goal.invariant_of-result
invariant_of-result c =
    let a = c.args in
    let passes = word_passed (length a.cells.now) a.word.now c.in_ok-judged_word.ensures in
    record {
      long = rw c.in_ok-state.ensures.state.cells (word_long (length a.cells.now) a.word.now passes);
      allowed = word_legal (length a.cells.now) a.word.now passes;
    }
