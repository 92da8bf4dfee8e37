-- `cli_vocabulary::piece_end` meets its contract: the place lies in the text.
use Rattle.std.proofs.Common.{arith}
use Rattle.cli_vocabulary.proofs.Marks.{piece_ends}
use Rattle.cli_vocabulary.proofs.pieces.piece_end.Goals as goal

pub returns : goal.returns
returns c = piece_ends c.args.mark c.args.from c.before-2.result c.args.text.now c.requires c.before-2.ensures

pub overflow_add-result : goal.overflow_add-result
overflow_add-result c =
    let ends = piece_ends c.args.mark c.args.from c.before-2.result c.args.text.now c.requires c.before-2.ensures in
    omega (arith, ends.inside)
