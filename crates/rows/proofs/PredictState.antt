-- What a row prediction says of its state, from what it hands back of a checked input.
use mathlib.Core.Path.{◌≡◌, ◌∙◌, refl, ap}
use mathlib.Core.List.{List, [], ◌∷◌}
use Prim.Native.Nat.{ℕ, suc, ◌+◌}
use native.Mathlib.Omega.{arith}
use lib.IntN.{ℤ}
use lib.ListN.{length}
use Rattle.road.specs.declared.Road.{Road}
use Rattle.scheme.specs.Word.{word_of}
use Rattle.rows.specs.Rows.{row_numerators}
use Rattle.rows.specs.Prediction.{PredictChecked, PredictState}
use Rattle.scheme.proofs.ByFaces.{exact_step_by_faces}
use Rattle.rows.proofs.Rows.{row_uncapped, row_near, rows_open, rows_open_near}
use Rattle.modes.proofs.ReadOff.{read_off}

rows_length : (r : Road) (left down : ℕ) (word cells : List ℕ) → length word ≡ length cells + 1
    → length (row_numerators r left down word cells) ≡ length cells
unfolding row_numerators
rows_length r left down word [] e = refl
rows_length r left down [] (x ∷ xs) e = absurd (omega arith)
rows_length r left down (s ∷ []) (x ∷ xs) e = absurd (omega arith)
rows_length r left down (s ∷ t ∷ ss) (x ∷ xs) e = ap suc (rows_length r x down (t ∷ ss) xs (omega arith))

module _ (r : Road) (cells : List ℕ) (up down : ℕ) (word : List ℕ) (out : ℕ) (c : PredictChecked r cells up down word out) where
  pub predict_state : (rows : List ℤ) → rows ≡ row_numerators r up down word cells → PredictState r cells up down word rows
  predict_state rows written = record {
    written = written;
    long = ap length written ∙ rows_length r up down word cells c.word_long;
    own = λ q.
        let own_rows_give : rows ≡ row_numerators r up down (word_of r up down cells) cells =
        written ∙ ap (λ (w : List ℕ). row_numerators r up down w cells) q in
        record {
          exact = λ caps k h free. rw own_rows_give (row_uncapped r c.state.accepted up down cells c.state.up_below c.state.down_below c.state.cells_below caps k h free);
          exact_step_on = λ caps. exact_step_by_faces r caps c.state.accepted 1 up down cells;
          near = λ caps k h free. rw own_rows_give (row_near r c.state.accepted up down cells c.state.up_below c.state.down_below c.state.cells_below caps k h free);
          plain = own_rows_give ∙ rows_open r c.state.accepted up down cells c.state.up_below c.state.down_below c.state.cells_below;
          plain_near = λ k. rw own_rows_give (rows_open_near r c.state.accepted up down cells c.state.up_below c.state.down_below c.state.cells_below k);
        };
    occurs =
        let long = c.word_long in
        let low = c.state.cells_low in
        let high = c.state.cells_high in
        read_off r c.state.accepted word c.word_legal (omega arith) (omega arith);
  }
