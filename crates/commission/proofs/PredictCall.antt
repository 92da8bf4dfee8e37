-- The row prediction: what demand 1 says of it, and what an accepted one made, from its contracts.
use mathlib.Core.Path.{◌∙◌, refl, sym}
use mathlib.Core.Logic.{inr}
use mathlib.Core.List.{List, [], ◌∷◌}
use Prim.Native.Nat.{ℕ}
use lib.ListN.{length}
use Rattle.refusal.proofs.Table.{◌&◌}
use Rattle.road.specs.declared.Road.{Road}
use Rattle.rows.specs.Judging.{predict_checks, predict_refusal}
use Rattle.rows.specs.Prediction.{predict_answer, predicted, PredictState}
use Rattle.commission.specs.Outcome.{Outcome}
use Rattle.commission.specs.PredictCall.{CalledPredict, predict, welgadou_rows, AcceptedRows, RowsMade}
use Rattle.commission.specs.Table.{cells, output, cell, up, down, word, AllNamed}
use Rattle.commission.proofs.Told.{value_of, former_of, word_places, road_named, Told, told_as}

predict_named : (r : Road) (xs : List ℕ) (a b : ℕ) (letters : List ℕ) (out : ℕ) → AllNamed (predict_checks r xs a b letters out)
predict_named r xs a b letters out =
    road_named r (cells (length xs) & output (length xs) out & cell r xs & up r (a ∷ []) & down r (b ∷ []) & word (length xs) letters & tt)

pub predict_told : (o : Outcome) → CalledPredict o → Told o
unfolding predict_refusal predict_answer predicted
predict_told _ (predict {word = letters} c) = record {
  judged = told_as word_places c.judged;
  kept = λ n. former_of _ _ (λ z. n (c.number ∙ z)) c.output;
  table = λ i. record { number = c.number i; place = c.place i };
  named = predict_named _ _ _ _ letters _;
  numbers = refl;
  rise = inr (inr tt);
  made = λ z. value_of _ _ (sym c.number ∙ z) c.answer;
}
predict_told _ (welgadou_rows {word = letters} c) = record {
  judged = told_as word_places c.judged;
  kept = λ n. former_of _ _ (λ z. n (c.returned ∙ z)) c.output;
  table = λ i. record { number = c.returned i; place = c.placed i };
  named = predict_named _ _ _ _ letters _;
  numbers = refl;
  rise = inr (inr tt);
  made = λ z. tt;
}

pub rows_say : (x : AcceptedRows) → RowsMade x → PredictState x.road x.cells x.up x.down x.word x.rows
rows_say _ (predict c e) = c.state e
rows_say _ (welgadou_rows c z) = c.state z
