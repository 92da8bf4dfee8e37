-- What the C calls of Level 2 promise: the number returned, and every pointer's contents, from the definitions of the calls below;
-- demand 1 of the number and place (`judged`); and demand 2 of what an accepted call writes.
use Rattle.std.specs.Prelude.{◌≡◌, Bool, true, List, ℕ, ℤ, pos, length, Float}
use Rattle.std.specs.Float.{fin}
use Rattle.refusal.specs.Table.{refused}
use Rattle.road.specs.declared.Road.{Road}
use Rattle.modes.specs.Judging.{read_refusal}
use Rattle.rows.specs.Judging.{predict_refusal}
use Rattle.floats.specs.Worth.{Worth}
use Rattle.rows.specs.Rows.{row_value}
use Rattle.modes.specs.Reading.{read_answer, read_letters, read_modes, ReadJudged, ReadState}
use Rattle.modes.specs.Fit.{fit_meaning, FitJudged, FitState}
use Rattle.rows.specs.Prediction.{predicted, PredictJudged, PredictState}
use Rattle.candidate.specs.Candidate.{candidate_meaning, CandidateJudged, RowWhole, Whole}
use Rattle.counting.specs.Count.{count_meaning, CountJudged}
use Rattle.counting.specs.LegalWordsCounted.{LegalWordsCounted}
use Rattle.welgadou.specs.Parts.{written, flag_of}

-- welgadou_read: the letters, the modes, the seven counts, the queued cells
pub record StateRead (r : Road) (cells : List ℕ) (up down : ℕ) (letters letters-next modes modes-next counts counts-next : List ℕ) (queued queued-next place number : ℕ) : Type 0 where
  pub returned : number ≡ (read_refusal r cells up down (length letters) (length modes)).number
  pub placed : place ≡ (read_refusal r cells up down (length letters) (length modes)).place
  pub letters_written : letters-next ≡ read_letters r cells up down letters modes
  pub modes_written : modes-next ≡ read_modes r cells up down letters modes
  pub counts_written : counts-next ≡ written number (read_answer r cells up down (length letters) (length modes)).counts.modes counts
  pub queued_written : queued-next ≡ written number (read_answer r cells up down (length letters) (length modes)).counts.queued queued
  pub judged : ReadJudged r cells up down (length letters) (length modes) (refused number place)
  pub state : number ≡ 0 → ReadState r cells up down letters-next modes-next (record { modes = counts-next; queued = queued-next })

-- welgadou_fit: whether all faces of the word hold, the lowest that does not
pub record WordFitted (r : Road) (cells : List ℕ) (up down : ℕ) (word : List ℕ) (holds holds-next face face-next place number : ℕ) : Type 0 where
  pub returned : number ≡ (fit_meaning r cells up down word).number
  pub placed : place ≡ (fit_meaning r cells up down word).place
  pub holds_written : holds-next ≡ written number (flag_of (fit_meaning r cells up down word).holds) holds
  pub face_written : face-next ≡ written number (fit_meaning r cells up down word).face face
  pub judged : FitJudged r cells up down word (refused number place)
  pub state : number ≡ 0 → (b : Bool) × (holds-next ≡ flag_of b) × FitState r cells up down word (record { holds = b; face = face-next })

-- welgadou_rows: the row numerators
pub record RowsPredicted (r : Road) (cells : List ℕ) (up down : ℕ) (word : List ℕ) (out next : List ℤ) (place number : ℕ) : Type 0 where
  pub returned : number ≡ (predict_refusal r cells up down word (length out)).number
  pub placed : place ≡ (predict_refusal r cells up down word (length out)).place
  pub output : next ≡ predicted r cells up down word out
  pub judged : PredictJudged r cells up down word (length out) (refused number place)
  pub state : number ≡ 0 → PredictState r cells up down word next

-- welgadou_candidate, exported as welgadou_candidate_2: the numerator. The mode is the whole number that C gives
pub record CandidatePredicted (r : Road) (mode : ℕ) (left own right numerator numerator-next : Float) (place number : ℕ) : Type 0 where
  pub returned : number ≡ (candidate_meaning r mode left own right).number
  pub placed : place ≡ (candidate_meaning r mode left own right).place
  pub numerator_written : numerator-next ≡ written number (candidate_meaning r mode left own right).value numerator
  pub judged : CandidateJudged r mode left own right (refused number place)
  pub row_whole : number ≡ 0 → RowWhole r mode
  pub exact : number ≡ 0 → (l o t : ℕ) → Worth left (pos l) → Worth own (pos o) → Worth right (pos t) → Whole numerator-next (row_value r mode l o t)
  pub plain : number ≡ 0 → (e : ℤ) → numerator-next ≡ fin true 0 e → ⊥

-- welgadou_count: the number of legal words
pub record WordsCounted (cells words words-next place number : ℕ) : Type 0 where
  pub returned : number ≡ (count_meaning cells).number
  pub placed : place ≡ (count_meaning cells).place
  pub words_written : words-next ≡ written number (count_meaning cells).words words
  pub judged : CountJudged cells (refused number place)
  pub counted : number ≡ 0 → LegalWordsCounted cells words-next
