-- `cli_scenario::codes::wrong_word` meets its contract: nothing is wrong with an empty piece, with a word what is wrong with its item.
use Rattle.std.proofs.Common.{◌∙◌, sym, refl}
use Rattle.std.proofs.lemmas.Result.{err_from_is_err_and}
use Rattle.cli_scenario.specs.Codes.{wrong_value}
use Rattle.cli_scenario.proofs.Judged.{none_here, word_here}
use Rattle.cli_scenario.proofs.codes.wrong_word.Goals as goal

pub returns-in_err-item_of : goal.returns-in_err-item_of
unfolding wrong_value
returns-in_err-item_of c =
    let left = err_from_is_err_and c.from_residual.result c.from_residual.ensures.1 in
    rw (left.1, left.2, word_here c.args.word.now (sym c.is_empty.ensures ∙ c.if-not-is_empty.true), sym c.in_err-item_of.ensures) refl

pub returns-in_ok-item_of : goal.returns-in_ok-item_of
unfolding wrong_value
returns-in_ok-item_of c =
    rw (word_here c.args.word.now (sym c.is_empty.ensures ∙ c.if-not-is_empty.true), sym c.in_ok-item_of.ensures) refl

pub returns-else-not-is_empty : goal.returns-else-not-is_empty
unfolding wrong_value
returns-else-not-is_empty c = rw (none_here c.args.word.now (sym c.is_empty.ensures ∙ c.if-not-is_empty.false)) refl
