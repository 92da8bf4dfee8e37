-- `cli_scenario::codes::line_of` meets its contract: its number is no more than that of all lines.
use Rattle.std.proofs.Common.{sym, arith, []}
use Rattle.std.proofs.lemmas.List.Quantifiers.{position-Some}
use Rattle.std.specs.Prelude.{eqb}
use Rattle.cli_vocabulary.specs.Pieces.{words, lines}
use Rattle.cli_vocabulary.specs.Codes.{line_code}
use Rattle.cli_scenario.proofs.Counting.{lines_few}
use Rattle.cli_scenario.proofs.codes.line_of.Goals as goal

pub overflow_add-result : goal.overflow_add-result
overflow_add-result c =
    let found =
    position-Some (λ line. eqb (line_code (words line)) c.args.code) (lines c.args.text.now) c.in-Some.place [] (sym c.in-Some.ensures)
    in
    omega (arith, lines_few c.args.text.now, found.0)
