-- `cli_scenario::line_of` meets its contract: its number is no more than that of all lines.
use Rattle.std.proofs.Common.{sym, arith, []}
use Rattle.std.proofs.lemmas.List.Quantifiers.{position-Some}
use Rattle.cli_vocabulary.specs.Pieces.{words, lines}
use Rattle.cli_vocabulary.specs.Keys.{is_key, key_of}
use Rattle.cli_scenario.proofs.Counting.{lines_few}
use Rattle.cli_scenario.proofs.finding.line_of.Goals as goal

pub overflow_add-result : goal.overflow_add-result
overflow_add-result c =
    let found =
    position-Some (λ line. is_key c.args.key (key_of (words line))) (lines c.args.text.now) c.in_ok-place.place [] (sym c.in_ok-place.ensures)
    in
    omega (arith, lines_few c.args.text.now, found.0)
