-- `modes::read` meets its contract: refused, nothing is written; otherwise the letters, then the modes of the letters, then the counts of the modes and the queued cells.
use Rattle.std.proofs.Common.{arith}
use Rattle.modes.proofs.ReadAnswers.{refused_by, passes, checked, word_long, few_modes, done}
use Rattle.modes.proofs.reading.read.Goals as goal

pub returns-in_err-state : goal.returns-in_err-state
returns-in_err-state c =
    let a = c.args in
    refused_by a.road a.cells.now a.up a.down a.letters.now a.modes.now c.have_bad_length-bad.result c.have_bad_length-bad.ensures
    c.in_err-state.field-0.0 c.from_residual.result c.from_residual.ensures.1 c.in_err-state.ensures.refusal

-- past the `?` nothing is refused
pub write_letters-requires : goal.write_letters-requires
write_letters-requires c =
    let a = c.args in
    let e = passes a.road a.cells.now a.up a.down a.letters.now a.modes.now c.have_bad_length-bad.result c.have_bad_length-bad.ensures c.in_ok-state.ensures.refusal in
    rw c.in_ok-state.ensures.state.cells (checked a.road a.cells.now a.up a.down a.letters.now a.modes.now e).letters_long

pub write_modes-requires : goal.write_modes-requires
write_modes-requires c =
    let a = c.args in
    let s = c.in_ok-state.ensures.state in
    let e = passes a.road a.cells.now a.up a.down a.letters.now a.modes.now c.have_bad_length-bad.result c.have_bad_length-bad.ensures c.in_ok-state.ensures.refusal in
    word_long a.road a.cells.now a.up a.down a.letters.now a.modes.now e
    c.write_letters.new.letters (rw (s.road, s.up, s.down, s.cells) at c.write_letters.ensures)

pub tally-requires : goal.tally-requires
tally-requires c =
    let a = c.args in
    let s = c.in_ok-state.ensures.state in
    let e = passes a.road a.cells.now a.up a.down a.letters.now a.modes.now c.have_bad_length-bad.result c.have_bad_length-bad.ensures c.in_ok-state.ensures.refusal in
    few_modes a.road a.cells.now a.up a.down a.letters.now a.modes.now e
    c.write_letters.new.letters (rw (s.road, s.up, s.down, s.cells) at c.write_letters.ensures) c.write_modes.new.modes c.write_modes.ensures

pub returns : goal.returns
returns c =
    let a = c.args in
    let s = c.in_ok-state.ensures.state in
    let e = passes a.road a.cells.now a.up a.down a.letters.now a.modes.now c.have_bad_length-bad.result c.have_bad_length-bad.ensures c.in_ok-state.ensures.refusal in
    done a.road a.cells.now a.up a.down a.letters.now a.modes.now e
    c.write_letters.new.letters (rw (s.road, s.up, s.down, s.cells) at c.write_letters.ensures) c.write_modes.new.modes c.write_modes.ensures
    c.tally.result _ c.tally.ensures (omega (arith, rw (s.road, s.cells) at c.queued.ensures))
