-- The loop of `cli_picture::write_start`: the bytes before i are written.
use Rattle.std.proofs.Common.{◌≡◌, take}
use Rattle.cli_picture.specs.Listed.{listed}
use Rattle.cli_picture.specs.Bitmap.{start_byte}
use Rattle.cli_picture.proofs.bitmap.write_start.Given as goal

abbrev pub invariant-loop-i : goal.invariant-loop-i
invariant-loop-i l = take l.i l.out ≡ listed l.i (start_byte l.width l.height)
