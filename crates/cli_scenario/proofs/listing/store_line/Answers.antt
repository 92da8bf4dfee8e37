-- `cli_scenario::store_line` meets its contract: a line of another key gives nothing, one of the key the values of its other words.
use Rattle.std.proofs.Common.{◌≡◌, sym, true, false, rules}
use Rattle.cli_vocabulary.specs.Keys.{is_key}
use Rattle.cli_scenario.specs.Values.{given}
use Rattle.cli_scenario.proofs.Storing.{stored_nothing}
use Rattle.cli_scenario.proofs.listing.store_line.Goals as goal

pub returns-in_default : goal.returns-in_default
unfolding given
returns-in_default c = rw (sym c.of-words.ensures, c.in_default.ensures.steps.0) (stored_nothing c.args.out.now c.args.filled c.requires)

pub returns-then-eq : goal.returns-then-eq
unfolding given
returns-then-eq c =
    let same : is_key c.args.key c.named.result ≡ true = search rules in
    rw (sym c.of-words.ensures, c.in-Some.ensures.steps, sym c.named.ensures, same) c.store_words.ensures

pub returns-else-eq : goal.returns-else-eq
unfolding given
returns-else-eq c =
    let other : is_key c.args.key c.named.result ≡ false = search rules in
    rw (sym c.of-words.ensures, c.in-Some.ensures.steps, sym c.named.ensures, other) (stored_nothing c.args.out.now c.args.filled c.requires)
