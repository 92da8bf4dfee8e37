-- The loop of `cli_picture::stretch`: the bytes before x are written.
use Rattle.std.proofs.Common.{◌≡◌, take}
use Rattle.cli_picture.specs.Listed.{listed}
use Rattle.cli_picture.specs.Bitmap.{pixel_of}
use Rattle.cli_picture.proofs.rows.stretch.Given as goal

abbrev pub invariant-loop-x : goal.invariant-loop-x
invariant-loop-x l = take l.x l.out ≡ listed l.x (pixel_of l.shades l.across)
