-- `cli_scenario::append` meets its contract: as many as there is room for.
use Rattle.cli_scenario.proofs.Storing.{stored_run}
use Rattle.cli_scenario.proofs.listing.append.Goals as goal

pub returns : goal.returns
returns c =
    stored_run c.args.out.now c.fill.new.out c.args.filled c.args.item.times c.min-count.result c.args.item.value c.requires
    c.min-count.ensures c.fill.ensures
