-- `cli_vocabulary::Key::named` meets its contract: the key of the first row that has the word for its name.
use Rattle.std.proofs.Common.{◌∙◌, sym, ap}
use Rattle.std.specs.Option.{option_map}
use Rattle.cli_vocabulary.specs.declared.keys.Row.{Row}
use Rattle.cli_vocabulary.proofs.Naming.{key_found}
use Rattle.cli_vocabulary.proofs.keys.Key.named.Goals as goal

pub returns-in_err-row : goal.returns-in_err-row
returns-in_err-row c =
    c.from_residual.ensures
    ∙ ap (option_map (λ (row : Row). row.0)) (sym c.in_err-row.was) ∙ key_found c.args.word.now c.row_named.result c.row_named.ensures

pub returns : goal.returns
returns c = ap (option_map (λ (row : Row). row.0)) (sym c.in_ok-row.was) ∙ key_found c.args.word.now c.row_named.result c.row_named.ensures
