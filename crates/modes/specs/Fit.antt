-- The fit test: whether a state and end pair fit a word (document 01, "Seven modes").
use Rattle.std.specs.Prelude.{◌≡◌, Bool, true, false, ◌↔◌, List, [], ◌∷◌, ℕ, suc, ◌+◌, ◌≤◌, ◌<◌, eqb, length, get_or}
use Rattle.choice.specs.Choice.{pick}
use Rattle.refusal.specs.Table.{refused, Judged, unless_refused}
use Rattle.road.specs.declared.Road.{Road}
use Rattle.refusal.specs.Outcome.{Outcome}
use Rattle.checks.specs.State.{StateChecked}
use Rattle.flux.specs.Letters.{Lettered}
use Rattle.scheme.specs.Advance.{padded}
use Rattle.scheme.specs.Sums.{same_list}
use Rattle.scheme.specs.Word.{word_of}
use Rattle.words.specs.Words.{legal}
use Rattle.modes.specs.Judging.{fit_checks, fit_refusal}
use Rattle.words.specs.Places.{PairWordPlaced}
use Rattle.modes.specs.Answers.{FitResult, FitAnswer}
use Rattle.refusal.specs.Answer.{Done, Refused}

-- the lowest face at which two words of one length differ, from 0; the number of faces where none does. Check 12 lets no other length through
unfoldable pub first_misfit : List ℕ → List ℕ → ℕ
first_misfit [] ts = 0
first_misfit (s ∷ ss) [] = 0
first_misfit (s ∷ ss) (t ∷ ts) = pick (eqb s t) (suc (first_misfit ss ts)) 0

-- whether all faces of the word hold: it is the state's word, letter by letter and of the same length
unfoldable pub all_letters_hold : Road → List ℕ → ℕ → ℕ → List ℕ → Bool
all_letters_hold r cells up down word = same_list (word_of r up down cells) word

-- the lowest face that does not (0 where all hold)
unfoldable pub misfit_face : Road → List ℕ → ℕ → ℕ → List ℕ → ℕ
misfit_face r cells up down word = pick (all_letters_hold r cells up down word) 0 (first_misfit (word_of r up down cells) word)

unfoldable pub fit_answer : Road → List ℕ → ℕ → ℕ → List ℕ → FitAnswer
fit_answer r cells up down word =
    unless_refused (fit_refusal r cells up down word)
    (Done (record { holds = all_letters_hold r cells up down word; face = misfit_face r cells up down word }))
    (Refused (fit_refusal r cells up down word))

-- the paper's numbers of an answer: number (0 when accepted), place, whether all hold (false when refused), the lowest face that does not (0 when refused)
pub record Meaning : Type 0 where
  pub number : ℕ
  pub place : ℕ
  pub holds : Bool
  pub face : ℕ

abbrev pub meaning : FitAnswer → Meaning
meaning (Done f) = record { number = 0; place = 0; holds = f.holds; face = f.face }
meaning (Refused f) = record { number = f.number; place = f.place; holds = false; face = 0 }

unfoldable pub fit_meaning : Road → List ℕ → ℕ → ℕ → List ℕ → Meaning
fit_meaning r cells up down word = record {
  number = (fit_refusal r cells up down word).number;
  place = (fit_refusal r cells up down word).place;
  holds = unless_refused (fit_refusal r cells up down word) (all_letters_hold r cells up down word) false;
  face = unless_refused (fit_refusal r cells up down word) (misfit_face r cells up down word) 0;
}

-- what an input that no check refuses is
pub record FitChecked (r : Road) (cells : List ℕ) (up down : ℕ) (word : List ℕ) : Type 0 where
  pub state : StateChecked r cells up down
  pub word_long : length word ≡ length cells + 1
  pub word_legal : legal word ≡ true

-- demand 1 of a refusal, of the fit test's checks
abbrev pub FitJudged : Road → List ℕ → ℕ → ℕ → List ℕ → Outcome → Type 0
FitJudged r cells up down word f = Judged (fit_checks r cells up down word) (FitChecked r cells up down word) (PairWordPlaced r cells up down word) f

-- what the comparison of the faces reports
pub record Compared (r : Road) (cells : List ℕ) (up down : ℕ) (word : List ℕ) (f : FitResult) : Type 0 where
  pub holds : f.holds ≡ all_letters_hold r cells up down word
  pub face : f.face ≡ misfit_face r cells up down word

-- the face that is reported where not all hold: a face of the word, whose letter is not the state's there, and every lower one holds
pub record LowestMisfit (own word : List ℕ) (face : ℕ) : Type 0 where
  pub inside : face < length word
  pub differs : get_or own face 0 ≡ get_or word face 0 → ⊥
  pub lower : (i : ℕ) → i < face → get_or own i 0 ≡ get_or word i 0

-- a word whose letter of face k, from 0 to n, stands in its region, between the densities of cells k and k+1
abbrev pub LetteredWord : Road → List ℕ → ℕ → ℕ → List ℕ → Type 0
LetteredWord r cells up down word =
    (k : ℕ) → k ≤ length cells → Lettered r (get_or (padded up down cells) k 0) (get_or (padded up down cells) (k + 1) 0) (get_or word k 0)

-- an accepted fit test: all faces hold exactly when the word is the state's own; otherwise the face given does not hold, and every lower one does
pub record FitState (r : Road) (cells : List ℕ) (up down : ℕ) (word : List ℕ) (f : FitResult) : Type 0 where
  pub lettered : LetteredWord r cells up down (word_of r up down cells)
  pub all : (f.holds ≡ true) ↔ (word ≡ word_of r up down cells)
  pub no_face : f.holds ≡ true → f.face ≡ 0
  pub lowest : f.holds ≡ false → LowestMisfit (word_of r up down cells) word f.face

-- what the call promises
pub record Fits (r : Road) (cells : List ℕ) (up down : ℕ) (word : List ℕ) (a : FitAnswer) : Type 0 where
  pub answer : a ≡ fit_answer r cells up down word
  pub means : meaning a ≡ fit_meaning r cells up down word
  pub judged : FitJudged r cells up down word (refused (meaning a).number (meaning a).place)
  -- demand 2, of an accepted call
  pub state : (f : FitResult) → a ≡ Done f → FitState r cells up down word f

-- the fit test was made, and every face holds
abbrev pub AnswersFit : FitAnswer → Type 0
AnswersFit a = (f : FitResult) × (a ≡ Done f) × (f.holds ≡ true)
