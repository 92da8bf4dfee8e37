-- The loop of `rows::write_rows` keeps `RowsWritten`.
use Rattle.rows.proofs.RowLoop.{RowsWritten}
use Rattle.rows.proofs.prediction.write_rows.Given as goal

abbrev pub invariant-loop-cell : goal.invariant-loop-cell
invariant-loop-cell l = RowsWritten l.state.road.road l.state.up l.state.down l.word l.state.cells.now l.out l.left l.cell
