-- `cli_vocabulary::Key::with_code` meets its contract: the key of the row there, and past the last none.
use Rattle.cli_vocabulary.proofs.KeyTable.{key_found_at, no_key_at}
use Rattle.cli_vocabulary.proofs.keys.Key.with_code.Goals as goal

pub returns-then-place-lt-KEYS : goal.returns-then-place-lt-KEYS
returns-then-place-lt-KEYS c = key_found_at _ c.args.code c.if-place-lt-KEYS.true

pub returns-else-place-lt-KEYS : goal.returns-else-place-lt-KEYS
returns-else-place-lt-KEYS c = no_key_at c.args.code c.if-place-lt-KEYS.false
