-- `cli_vocabulary::Key::row` meets its contract: a key's row stands at its place.
use Rattle.cli_vocabulary.proofs.KeyTable.{row_at}
use Rattle.cli_vocabulary.proofs.keys.Key.row.Goals as goal

pub returns : goal.returns
returns c = row_at _ c.args.self
