-- `rows::predict` meets its contract: refused, nothing is written; otherwise the rows are.
use Rattle.std.proofs.Common.{length}
use Rattle.refusal.proofs.Calls.{checked}
use Rattle.rows.proofs.PredictAnswers.{predict_call, refused_by, passes, done}
use Rattle.rows.proofs.prediction.predict.Goals as goal

pub returns-in_err-accepted : goal.returns-in_err-accepted
returns-in_err-accepted c =
    let a = c.args in
    refused_by a.road a.cells.now a.up a.down a.word.now a.out.now c.bad_output-bad.result c.bad_output-bad.ensures
    c.in_err-accepted.field-0.0 c.from_residual.result c.from_residual.ensures.1 c.in_err-accepted.ensures.refusal

-- past the `?` nothing is refused
pub write_rows-requires : goal.write_rows-requires
write_rows-requires c =
    let a = c.args in
    let e = passes a.road a.cells.now a.up a.down a.word.now a.out.now c.bad_output-bad.result c.bad_output-bad.ensures c.in_ok-accepted.ensures.refusal in
    rw c.in_ok-accepted.ensures.word.state.cells (checked (predict_call a.road a.cells.now a.up a.down a.word.now (length a.out.now)) e).output_long

pub returns : goal.returns
returns c =
    let a = c.args in
    let w = c.in_ok-accepted.ensures.word in
    let s = w.state in
    let e = passes a.road a.cells.now a.up a.down a.word.now a.out.now c.bad_output-bad.result c.bad_output-bad.ensures c.in_ok-accepted.ensures.refusal in
    done a.road a.cells.now a.up a.down a.word.now a.out.now e
    c.write_rows.new.out (rw (s.road, s.up, s.down, w.word, s.cells) at c.write_rows.ensures)
