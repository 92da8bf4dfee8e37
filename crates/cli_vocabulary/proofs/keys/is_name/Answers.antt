-- `cli_vocabulary::is_name` meets its contract: what stands behind the word in the name is blanks.
use Rattle.std.proofs.Common.{◌∙◌, sym, rules, ap}
use Rattle.std.proofs.lemmas.Slice.Eq.{strip_prefix_is}
use Rattle.cli_vocabulary.specs.Keys.{is_name}
use Rattle.cli_vocabulary.proofs.Naming.{padding, name_starts, name_differs}
use Rattle.cli_vocabulary.proofs.keys.is_name.Goals as goal

pub returns-in-Some : goal.returns-in-Some
returns-in-Some c =
    let starts = strip_prefix_is (λ a b. search rules) c.args.name.now c.args.word.now c.strip_prefix.result c.strip_prefix.ensures.cases in
    let at = rw c.in-Some.is at starts in
    c.is_padding.ensures ∙ padding c.in-Some.rest.now ∙ sym (name_starts c.args.word.now c.in-Some.rest.now) ∙ ap (is_name c.args.word.now) (sym at)

pub returns-in-None : goal.returns-in-None
returns-in-None c =
    let starts = strip_prefix_is (λ a b. search rules) c.args.name.now c.args.word.now c.strip_prefix.result c.strip_prefix.ensures.cases in
    let at = rw c.in-None.is at starts in
    sym (name_differs c.args.word.now c.args.name.now at)
