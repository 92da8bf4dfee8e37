-- `cli_vocabulary::run` meets its contract: behind the caret stands the count.
use Rattle.std.proofs.Common.{◌≡◌, ◌∙◌, List, ℕ, ◌+◌, ◌-◌, ◌≤◌, length, take, drop, ap, arith, length-drop}
use native.Mathlib.Nat.{le_of_eq}
use lib.Seq.{take_all, drop-drop}
use borrow.Author.Tests.{lt-ltb}
use Rattle.std.specs.Prelude.{Result}
use Rattle.cli_vocabulary.specs.Pieces.{caret, before}
use Rattle.cli_vocabulary.specs.Numbers.{number_of}
use Rattle.cli_vocabulary.specs.Items.{plain_of, times_of, run_of}
use Rattle.cli_vocabulary.specs.declared.faults.Fault.{Fault}
use Rattle.cli_vocabulary.specs.declared.items.Item.{Item}
use Rattle.cli_vocabulary.specs.declared.keys.Key.{Key}
use Rattle.cli_vocabulary.proofs.items.run.Goals as goal

counted : (key : Key) (w value marked : List ℕ) (item : Result Item Fault) → value ≡ take (before caret w) w → marked ≡ drop (before caret w) w
    → 1 ≤ length marked → item ≡ times_of (plain_of key value) (number_of 4294967295 (take (length marked - 1) (drop 1 marked))) → item ≡ run_of key w
counted key w value marked item front back h e =
    let count : take (length marked - 1) (drop 1 marked) ≡ drop (before caret w + 1) w =
    take_all (length marked - 1) (drop 1 marked) (le_of_eq (length-drop 1 marked)) ∙ ap (drop 1) back ∙ drop-drop 1 (before caret w) w
    in
    rw (lt-ltb (before caret w) (length w) (omega (arith, ap length back, length-drop (before caret w) w)), ← front, ← count) e

pub returns-in-len1-up : goal.returns-in-len1-up
returns-in-len1-up c =
    counted c.args.key c.args.word.now c.split_before.result.0.now c.split_before.result.1.now c.counted.result
    c.split_before.ensures.front c.split_before.ensures.back c.in-len1-up.len_at_least c.counted.ensures
