-- `modes::write_letters` meets its contract: the loop keeps `Lettering`, with the first letter above it and the last below.
use Rattle.std.proofs.Common.{◌∙◌}
use Rattle.modes.proofs.LetterLoop.{begins, turns, ends}
use Rattle.modes.proofs.writing.write_letters.Goals as goal

pub loop-face-init : goal.loop-face-init
loop-face-init c =
    let s = c.args.state in
    begins s.road.road s.up s.down s.cells.now c.args.letters.now c.requires s.checked.cells_low (c.code.ensures ∙ c.between.ensures)

pub loop-face-preserved : goal.loop-face-preserved
loop-face-preserved c =
    let s = c.args.state in
    turns s.road.road s.up s.down s.cells.now c.loop-face.letters c.loop-face.face c.loop-face.invariant c.loop-face.auto.face c.loop-face-test.true
    (c.code-in-loop-face.ensures ∙ c.between-in-loop-face.ensures)

pub returns : goal.returns
returns c =
    let s = c.args.state in
    ends s.road.road s.up s.down s.cells.now c.loop-face.letters c.loop-face.invariant c.loop-face-test.false s.checked.cells_low
    (c.code-2.ensures ∙ c.between-2.ensures)
