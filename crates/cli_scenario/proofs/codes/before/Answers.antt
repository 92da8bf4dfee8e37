-- `cli_scenario::codes::before` meets its contract: the search of the lines, which are few enough to count.
use Rattle.std.proofs.Common.{inl, arith, rules, refl}
use Rattle.std.proofs.lemmas.Iterator.Search.{position_from_yields_List}
use Rattle.std.proofs.lemmas.Iterator.Consumers.{YieldsList-from_first}
use Rattle.std.specs.Prelude.{eqb}
use Rattle.cli_vocabulary.specs.Pieces.{words, lines}
use Rattle.cli_vocabulary.specs.Codes.{line_code}
use Rattle.cli_vocabulary.specs.declared.pieces.Lines.{Lines}
use Rattle.cli_scenario.proofs.Counting.{lines_few}
use Rattle.cli_scenario.proofs.codes.before.Goals as goal

pub position-requires-clause-fits : goal.position-requires-clause-fits
position-requires-clause-fits c = inl (rw c.of.ensures (omega (arith, lines_few c.args.text.now)))

pub returns : goal.returns
returns c =
    let all = YieldsList-from_first (λ x. x.now) (λ (s : Lines). lines s.rest.now) (lines c.args.text.now) (rw c.of.ensures refl) in
    position_from_yields_List (λ line. eqb (line_code (words line)) c.args.code) c.position.new.self _ c.position.result c.position.ensures.ran all (λ x b q k. search rules)
