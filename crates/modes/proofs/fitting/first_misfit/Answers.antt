-- `modes::first_misfit` meets its contract: the loop keeps `WordCompared`, and the last face stands below it.
use Rattle.std.proofs.Common.{◌∙◌, refl, arith}
use Rattle.modes.proofs.Misfits.{differs, turns, ends_off, ends_on}
use Rattle.modes.proofs.FitAnswers.{all_fit, one_misfit}
use Rattle.modes.proofs.fitting.first_misfit.Goals as goal

pub returns-then-code-word : goal.returns-then-code-word
returns-then-code-word c =
    let a = c.args.accepted in
    let s = a.state in
    one_misfit s.road.road s.cells.now s.up s.down a.word.now c.loop-face.face
    (differs s.road.road s.up s.down s.cells.now a.word.now a.long
    c.loop-face.left c.loop-face.face c.loop-face.invariant c.code.result c.loop-face-test.true (c.code.ensures ∙ c.between.ensures) c.if-code-word.true)
    (λ e. omega arith)

pub loop-face-preserved : goal.loop-face-preserved
loop-face-preserved c =
    let a = c.args.accepted in
    let s = a.state in
    turns s.road.road s.up s.down s.cells.now a.word.now a.long
    c.loop-face.left c.loop-face.face c.loop-face.invariant c.code.result c.loop-face-test.true (c.code.ensures ∙ c.between.ensures)
    s.checked.cells_below c.if-code-word.false

pub returns-then-code-word-2 : goal.returns-then-code-word-2
returns-then-code-word-2 c =
    let a = c.args.accepted in
    let s = a.state in
    one_misfit s.road.road s.cells.now s.up s.down a.word.now _
    (ends_off s.road.road s.up s.down s.cells.now a.word.now a.long
    c.loop-face.left c.loop-face.face c.loop-face.invariant c.code-2.result c.loop-face-test.false (c.code-2.ensures ∙ c.between-2.ensures) c.if-code-word-2.true)
    (λ e. omega arith)

pub returns : goal.returns
returns c =
    let a = c.args.accepted in
    let s = a.state in
    all_fit s.road.road s.cells.now s.up s.down a.word.now _
    (ends_on s.road.road s.up s.down s.cells.now a.word.now a.long
    c.loop-face.left c.loop-face.face c.loop-face.invariant c.code-2.result c.loop-face-test.false (c.code-2.ensures ∙ c.between-2.ensures) c.if-code-word-2.false)
    a.long refl
