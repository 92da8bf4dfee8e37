-- `cli_scenario::codes::store_given` meets its contract: a line of another code gives nothing, one of the code the values of its other words.
use Rattle.std.proofs.Common.{◌≡◌, sym, true, false}
use Rattle.std.specs.Prelude.{eqb}
use borrow.Author.Tests.{eq-eqb, ne_eqb}
use Rattle.cli_scenario.specs.Codes.{given}
use Rattle.cli_scenario.proofs.Storing.{stored_nothing}
use Rattle.cli_scenario.proofs.codes.store_given.Goals as goal

pub returns-in_default : goal.returns-in_default
unfolding given
returns-in_default c = rw (sym c.of-words.ensures, c.in_default.ensures.steps.0) (stored_nothing c.args.out.now c.args.filled c.requires)

pub returns-then-key_code-code : goal.returns-then-key_code-code
unfolding given
returns-then-key_code-code c =
    let same : eqb c.key_code.result c.args.code ≡ true = eq-eqb _ _ c.if-key_code-code.true in
    rw (sym c.of-words.ensures, c.in-Some.ensures.steps, sym c.key_code.ensures, same) c.store_all.ensures

pub returns-else-key_code-code : goal.returns-else-key_code-code
unfolding given
returns-else-key_code-code c =
    let other : eqb c.key_code.result c.args.code ≡ false = ne_eqb _ _ c.if-key_code-code.false in
    rw (sym c.of-words.ensures, c.in-Some.ensures.steps, sym c.key_code.ensures, other) (stored_nothing c.args.out.now c.args.filled c.requires)
