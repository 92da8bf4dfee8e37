-- Row prediction: a legal word's rows applied to any accepted state (document 01, "Seven modes").
use Rattle.std.specs.Prelude.{◌≡◌, true, List, map, ℕ, ◌+◌, ◌*◌, ◌≤◌, ◌<◌, ℤ, pos, ◌-ℤ◌, nat_abs, length, get_or}
use Rattle.refusal.specs.Table.{refused, Judged, unless_refused}
use Rattle.road.specs.declared.Road.{Road}
use Rattle.refusal.specs.Outcome.{Outcome}
use Rattle.checks.specs.State.{StateChecked}
use Rattle.scheme.specs.Word.{word_of}
use Rattle.scheme.specs.Exact.{exact_step}
use Rattle.scheme.specs.Rounded.{open_caps, round_step}
use Rattle.scheme.specs.ByFaces.{numerator_over, ExactStepByFaces}
use Rattle.words.specs.Words.{legal}
use Rattle.rows.specs.Rows.{row_numerators}
use Rattle.rows.specs.Judging.{predict_checks, predict_refusal}
use Rattle.words.specs.Places.{PairWordPlaced}
use Rattle.modes.specs.ReadOff.{ReadOff}
use Rattle.rows.specs.Answers.{PredictAnswer}
use Rattle.refusal.specs.Answer.{Done, Refused}

unfoldable pub predict_answer : Road → List ℕ → ℕ → ℕ → List ℕ → ℕ → PredictAnswer
predict_answer r cells up down word out =
    unless_refused (predict_refusal r cells up down word out) (Done tt) (Refused (predict_refusal r cells up down word out))

-- the numerators written, or the former contents
unfoldable pub predicted : Road → List ℕ → ℕ → ℕ → List ℕ → List ℤ → List ℤ
predicted r cells up down word out =
    unless_refused (predict_refusal r cells up down word (length out)) (row_numerators r up down word cells) out

-- the paper's numbers of an answer: number (0 when accepted) and place
abbrev pub predict_number : PredictAnswer → ℕ
predict_number (Done made) = 0
predict_number (Refused f) = f.number

abbrev pub predict_place : PredictAnswer → ℕ
predict_place (Done made) = 0
predict_place (Refused f) = f.place

-- what an input that no check refuses is
pub record PredictChecked (r : Road) (cells : List ℕ) (up down : ℕ) (word : List ℕ) (out : ℕ) : Type 0 where
  pub state : StateChecked r cells up down
  pub output_long : out ≡ length cells
  pub word_long : length word ≡ length cells + 1
  pub word_legal : legal word ≡ true

-- demand 1 of a refusal, of the row prediction's checks
abbrev pub PredictJudged : Road → List ℕ → ℕ → ℕ → List ℕ → ℕ → Outcome → Type 0
PredictJudged r cells up down word out f =
    Judged (predict_checks r cells up down word out) (PredictChecked r cells up down word out) (PairWordPlaced r cells up down word) f

-- "neither face's numerator exceeds its cap × D", equality included: the faces of cell k+1, which stands at place k, are k and k+1
pub record Uncapped (r : Road) (caps : List ℕ) (up down : ℕ) (cells : List ℕ) (k : ℕ) : Type 0 where
  pub left : numerator_over r up down cells k ≤ get_or caps k 0 * r.divisor
  pub right : numerator_over r up down cells (k + 1) ≤ get_or caps (k + 1) 0 * r.divisor

-- rows of the state's own word, "promised equal to the exact step where neither face's numerator exceeds its cap × D" (document 02, E7): there the row at place k is the cell at place k of the exact,
-- unrounded step under the caps, in which no subtraction is cut off, and D times the rounded new density differs from it by less than D. Elsewhere nothing more is said
pub record OwnRows (r : Road) (cells : List ℕ) (up down : ℕ) (rows : List ℤ) : Type 0 where
  pub exact : (caps : List ℕ) (k : ℕ) → k < length cells → Uncapped r caps up down cells k → get_or rows k (pos 0) ≡ pos (get_or (exact_step r caps 1 up down cells) k 0)
  pub exact_step_on : (caps : List ℕ) → ExactStepByFaces r caps 1 up down cells (exact_step r caps 1 up down cells)
  pub near : (caps : List ℕ) (k : ℕ) → k < length cells → Uncapped r caps up down cells k
      → nat_abs (pos (r.divisor * get_or (round_step r caps up down cells) k 0) -ℤ get_or rows k (pos 0)) < r.divisor
  -- with open caps both hold of every cell: document 01's sentence as it was
  pub plain : rows ≡ map pos (exact_step r (open_caps (length cells)) 1 up down cells)
  pub plain_near : (k : ℕ) → nat_abs (pos (r.divisor * get_or (round_step r (open_caps (length cells)) up down cells) k 0) -ℤ get_or rows k (pos 0)) < r.divisor

-- an accepted row prediction of n cells: n numerators, by the rows of the word, which is the word of some accepted state
pub record PredictState (r : Road) (cells : List ℕ) (up down : ℕ) (word : List ℕ) (rows : List ℤ) : Type 0 where
  pub written : rows ≡ row_numerators r up down word cells
  pub long : length rows ≡ length cells
  pub own : word ≡ word_of r up down cells → OwnRows r cells up down rows
  pub occurs : ReadOff r word

-- what the call promises
pub record Predicts (r : Road) (cells : List ℕ) (up down : ℕ) (word : List ℕ) (out next : List ℤ) (a : PredictAnswer) : Type 0 where
  pub answer : a ≡ predict_answer r cells up down word (length out)
  pub number : predict_number a ≡ (predict_refusal r cells up down word (length out)).number
  pub place : predict_place a ≡ (predict_refusal r cells up down word (length out)).place
  pub output : next ≡ predicted r cells up down word out
  pub judged : PredictJudged r cells up down word (length out) (refused (predict_number a) (predict_place a))
  -- demand 2, of an accepted call: of the numerators handed back
  pub state : a ≡ Done tt → PredictState r cells up down word next
