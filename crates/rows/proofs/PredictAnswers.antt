-- The row prediction's judgement and its answers: which inputs no check refuses, what is written of them, and what is answered of the others.
use mathlib.Core.Path.{◌≡◌, ◌∙◌, refl, sym, ap}
use mathlib.Core.Bool.{Bool, true≢false}
use mathlib.Core.List.{List, [], ◌∷◌}
use Prim.Native.Nat.{ℕ}
use lib.IntN.{ℤ}
use lib.ListN.{length}
use Rattle.road.specs.declared.Road.{Road}
use Rattle.refusal.specs.Outcome.{Outcome}
use Rattle.refusal.proofs.Table.{◌&◌}
use Rattle.refusal.proofs.Calls.{Call, refuses, accepts}
use Rattle.checks.specs.Checks.{output_check}
use Rattle.checks.proofs.Checks.{output_long, output_passes}
use Rattle.checks.proofs.State.{state_checked}
use Rattle.rows.specs.Rows.{row_numerators}
use Rattle.rows.specs.Judging.{predict_checks, predict_refusal}
use Rattle.words.specs.Places.{PairWordPlaced}
use Rattle.rows.specs.Prediction.{predict_answer, predicted, PredictChecked, Predicts}
use Rattle.refusal.specs.Answer.{Done, Refused, outcome_of, answer_of}
use Rattle.refusal.specs.Table.{passed}
use Rattle.refusal.specs.declared.Refusal.{Refusal}
use Rattle.refusal.proofs.Results.{numbered}
use Rattle.checks.specs.Lists.{bad_output}
use Rattle.words.specs.Judging.{state_word_refusal}
use Rattle.std.specs.Prelude.{IsErrAnd, Result}
use Rattle.std.proofs.lemmas.Result.{err_from_is_err_and}
use native.Mathlib.Omega.{arith}
use Rattle.words.proofs.WordCheck.{word_long, word_legal, state_word_passes, pair_word_placed}
use Rattle.rows.proofs.PredictState.{predict_state}

module _ (r : Road) (cells : List ℕ) (up down : ℕ) (word : List ℕ) where
  module _ (out : ℕ) where
    -- the row prediction's table refuses nothing exactly of a checked input
    pub predict_call : Call (predict_checks r cells up down word out) (PredictChecked r cells up down word out) (PairWordPlaced r cells up down word) (predict_refusal r cells up down word out)
    unfolding predict_refusal
    predict_call = record {
      comes_to = refl;
      distinct = tt;
      placed = λ at. pair_word_placed r cells up down word _ (at 9 tt) (at 10 tt) (at 11 tt) (at 12 tt);
      clear_checked = λ no. record {
        state = state_checked r cells up down (no 1) (no 2) (no 3) (no 4) (no 5) (no 9) (no 10) (no 11);
        output_long = output_long (length cells) out (no 8);
        word_long = word_long (length cells) word (no 12);
        word_legal = word_legal (length cells) word (no 12);
      };
      passes = λ c. state_word_passes r cells up down word c.state c.word_long c.word_legal (output_check (length cells) out ∷ []) (output_passes (length cells) out c.output_long & tt);
    }

  module _ (out : List ℤ) where
    -- refused: the number and place of the table, and the former contents
    pub refused : (f : Outcome) → f ≡ predict_refusal r cells up down word (length out) → (f.number ≡ 0 → ⊥)
        → Predicts r cells up down word out out (Refused f)
    unfolding predict_answer predicted
    refused f e n =
        let k = refuses (predict_call (length out)) e n in
        record {
          answer = rw k.no (ap Refused e);
          number = ap (λ (g : Outcome). g.number) e;
          place = ap (λ (g : Outcome). g.place) e;
          output = rw k.no refl;
          judged = k.judged;
          state = λ q. absurd (true≢false (cc q));
        }

    -- accepted: the rows
    pub done : (predict_refusal r cells up down word (length out)).number ≡ 0 → (next : List ℤ) → next ≡ row_numerators r up down word cells
        → Predicts r cells up down word out next (Done tt)
    unfolding predict_answer predicted
    done e next is =
        let k = accepts (predict_call (length out)) e in
        record {
          answer = rw k.yes refl;
          number = rw k.nothing refl;
          place = rw k.nothing refl;
          output = rw k.yes is;
          judged = k.judged;
          state = λ q. predict_state r cells up down word (length out) k.checked next is;
        }

    -- the judgement of a state and a word, with check 8 of the output, is the row prediction's
    module _ (bad : Bool) (eight : bad ≡ bad_output (length cells) (length out)) where
      judgement : state_word_refusal r cells up down word bad ≡ predict_refusal r cells up down word (length out)
      unfolding predict_refusal state_word_refusal
      judgement = ap (state_word_refusal r cells up down word) eight

      -- so that a refusal of it is refused, and what passed it is checked
      pub refused_by : (f : Refusal) (a : Result (Unit {0}) Refusal) → IsErrAnd a (λ g. g ≡ f) → outcome_of f ≡ state_word_refusal r cells up down word bad
          → Predicts r cells up down word out out (answer_of a)
      refused_by f a is_err e =
          let p = err_from_is_err_and a is_err in
          rw (p.1, p.2) (refused (outcome_of f) (e ∙ judgement) (λ z. let n = numbered f in omega arith))

      pub passes : passed ≡ state_word_refusal r cells up down word bad → (predict_refusal r cells up down word (length out)).number ≡ 0
      passes e = sym (ap (λ (g : Outcome). g.number) (e ∙ judgement))
