-- `rows::write_rows` meets its contract: the loop keeps `RowsWritten`.
use Rattle.std.proofs.Common.{◌∙◌, ap₂, ℕ, ◌+◌, get_or, arith}
use Rattle.scheme.proofs.Ahead.{ahead_below}
use Rattle.rows.specs.Rows.{row_value}
use Rattle.rows.proofs.Coefficients.{read_sized, read_value}
use Rattle.rows.proofs.RowLoop.{turns, ends}
use Rattle.rows.proofs.prediction.write_rows.Goals as goal

pub applied-requires-clause-sized : goal.applied-requires-clause-sized
applied-requires-clause-sized c =
    let s = c.args.accepted.state in
    read_sized s.road.road s.road.accepted c.rows_of-rows.ensures _ c.between-mode.result c.place.ensures

pub applied-requires-clause-right_le_jam_ceiling : goal.applied-requires-clause-right_le_jam_ceiling
applied-requires-clause-right_le_jam_ceiling c =
    let s = c.args.accepted.state in
    let jam_high = s.road.accepted.jam_high in
    let ahead_high = ahead_below s.road.road.jam s.down (c.loop-cell.cell + 1) s.cells.now s.checked.cells_below s.checked.down_below in
    omega (arith, c.density_at-right.ensures)

-- the cell's row, as it is read back to be written
pub loop-cell-preserved : goal.loop-cell-preserved
loop-cell-preserved c =
    let a = c.args.accepted in
    let s = a.state in
    let r = s.road.road in
    let l = c.loop-cell in
    let own = get_or s.cells.now l.cell 0 in
    let next = c.density_at-right in
    let ahead_high = ahead_below r.jam s.down (l.cell + 1) s.cells.now s.checked.cells_below s.checked.down_below in
    turns r s.up s.down a.word.now s.cells.now a.long l.out l.left l.cell l.invariant _
    c.loop-cell-test.true (s.checked.cells_below l.cell)
    (read_value r s.road.accepted c.rows_of-rows.ensures _ c.between-mode.result c.place.ensures l.left own next.result l.invariant.low
    (s.checked.cells_below l.cell) (rw next.ensures ahead_high) c.applied.ensures
    ∙ ap₂ (λ (m d : ℕ). row_value r m l.left own d) c.between-mode.ensures next.ensures)

pub returns : goal.returns
returns c =
    let a = c.args.accepted in
    let s = a.state in
    ends s.road.road s.up s.down a.word.now s.cells.now a.long c.loop-cell.out c.loop-cell.left c.loop-cell.cell c.loop-cell.invariant c.loop-cell-test.false
