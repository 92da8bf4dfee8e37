-- The reading of a state: letters, modes, seven counts and the queued cells (document 01, "Seven modes"; document 02, E6).
use Rattle.std.specs.Prelude.{◌≡◌, true, List, [], ◌∷◌, ℕ, ◌+◌, ◌≤◌, ◌<◌, eqb, ltb, length, get_or}
use Rattle.choice.specs.Choice.{pick}
use Rattle.refusal.specs.Table.{refused, Judged, unless_refused}
use Rattle.road.specs.declared.Road.{Road}
use Rattle.refusal.specs.Outcome.{Outcome}
use Rattle.checks.specs.Places.{Placed}
use Rattle.checks.specs.State.{StateChecked}
use Rattle.flux.specs.Letters.{PublishedFlow}
use Rattle.scheme.specs.Advance.{padded}
use Rattle.scheme.specs.Sums.{sum}
use Rattle.scheme.specs.Word.{word_of}
use Rattle.words.specs.Words.{legal}
use Rattle.modes.specs.Modes.{modes_of}
use Rattle.modes.specs.Judging.{read_checks, read_refusal}
use Rattle.modes.specs.Fit.{all_letters_hold, LetteredWord, Fits, AnswersFit}
use Rattle.modes.specs.Answers.{ReadAnswer, StateReading, no_counts, FitAnswer}
use Rattle.refusal.specs.Answer.{Done, Refused}
use Rattle.modes.specs.declared.reading.Counts.{Counts}

-- how many of the modes are k
unfoldable pub count_of : ℕ → List ℕ → ℕ
count_of k [] = 0
count_of k (m ∷ ms) = pick (eqb m k) 1 0 + count_of k ms

-- seven counts, one for each mode
unfoldable pub counts_of : List ℕ → List ℕ
counts_of ms = count_of 1 ms ∷ count_of 2 ms ∷ count_of 3 ms ∷ count_of 4 ms ∷ count_of 5 ms ∷ count_of 6 ms ∷ count_of 7 ms ∷ []

-- the queued cells: those whose density exceeds C (document 02, E6); document 01's meaning, modes 1, 2 and 3, which source 003 calls congestion, is replaced
unfoldable pub queued_of : ℕ → List ℕ → ℕ
queued_of c [] = 0
queued_of c (x ∷ xs) = pick (ltb c x) 1 0 + queued_of c xs

-- every mode is one of the seven
abbrev pub Numbered : List ℕ → Type 0
Numbered ms = (i : ℕ) → i < length ms → (1 ≤ get_or ms i 0) × (get_or ms i 0 ≤ 7)

-- the counts of a state's modes, and its queued cells
abbrev pub counts_for : Road → List ℕ → List ℕ → Counts
counts_for r cells modes = record { modes = counts_of modes; queued = queued_of r.critical cells }

-- what an input that no check refuses is
pub record ReadChecked (r : Road) (cells : List ℕ) (up down letters modes : ℕ) : Type 0 where
  pub state : StateChecked r cells up down
  pub letters_long : letters ≡ length cells + 1
  pub modes_long : modes ≡ length cells

-- demand 1 of a refusal, of the reading's checks
abbrev pub ReadJudged : Road → List ℕ → ℕ → ℕ → ℕ → ℕ → Outcome → Type 0
ReadJudged r cells up down letters modes f =
    Judged (read_checks r cells up down letters modes) (ReadChecked r cells up down letters modes) (Placed r cells (up ∷ []) (down ∷ [])) f

-- what the reading answers: the counts beside Done, or the refusal beside all counts 0
unfoldable pub read_answer : Road → List ℕ → ℕ → ℕ → ℕ → ℕ → StateReading
read_answer r cells up down letters modes =
    unless_refused (read_refusal r cells up down letters modes)
    (record {
      answer = Done tt;
      counts = counts_for r cells (modes_of (word_of r up down cells));
    })
    (record { answer = Refused (read_refusal r cells up down letters modes); counts = no_counts })

-- the letters and the modes written, or the former contents
unfoldable pub read_letters : Road → List ℕ → ℕ → ℕ → List ℕ → List ℕ → List ℕ
read_letters r cells up down letters modes =
    unless_refused (read_refusal r cells up down (length letters) (length modes)) (word_of r up down cells) letters

unfoldable pub read_modes : Road → List ℕ → ℕ → ℕ → List ℕ → List ℕ → List ℕ
read_modes r cells up down letters modes =
    unless_refused (read_refusal r cells up down (length letters) (length modes)) (modes_of (word_of r up down cells)) modes

-- the paper's numbers of an answer: number (0 when accepted) and place
abbrev pub read_number : ReadAnswer → ℕ
read_number (Done made) = 0
read_number (Refused f) = f.number

abbrev pub read_place : ReadAnswer → ℕ
read_place (Done made) = 0
read_place (Refused f) = f.place

-- what its own word is to a state: it has a letter a face, is legal, fits, and is the only word that does
pub record OwnWord (r : Road) (cells : List ℕ) (up down : ℕ) (word : List ℕ) : Type 0 where
  pub long : length word ≡ length cells + 1
  pub allowed : legal word ≡ true
  pub fits : all_letters_hold r cells up down word ≡ true
  pub only : (other : List ℕ) → all_letters_hold r cells up down other ≡ true → other ≡ word

-- how the queued number agrees with the modes: a cell in mode 1, 2 or 6 exceeds C, one in mode 3, 4 or 7 does not, and one in mode 5 may
pub record SignsAgree (modes : List ℕ) (queued : ℕ) : Type 0 where
  pub least : count_of 1 modes + count_of 2 modes + count_of 6 modes ≤ queued
  pub most : queued ≤ count_of 1 modes + count_of 2 modes + count_of 5 modes + count_of 6 modes

-- an accepted reading of n cells: n+1 letters, the state's own word; n modes, each one of the seven; the counts of the modes, whose sum is n; the queued cells, those above C
pub record ReadState (r : Road) (cells : List ℕ) (up down : ℕ) (letters modes : List ℕ) (c : Counts) : Type 0 where
  -- the letter of each face stands in its region, and the face has that letter's published flow
  pub lettered : LetteredWord r cells up down letters
  pub flow : (k : ℕ) → k ≤ length cells → PublishedFlow r (get_or (padded up down cells) k 0) (get_or (padded up down cells) (k + 1) 0) (get_or letters k 0)
  pub word : letters ≡ word_of r up down cells
  pub own : OwnWord r cells up down letters
  -- the fit test of the same state says the same: it answers that all faces hold, of these letters and of no others
  pub fit : (a : FitAnswer) → Fits r cells up down letters a → AnswersFit a
  pub fit_only : (other : List ℕ) (a : FitAnswer) → Fits r cells up down other a → AnswersFit a → other ≡ letters
  pub moded : modes ≡ modes_of letters
  pub modes_long : length modes ≡ length cells
  pub numbered : Numbered modes
  pub counted : c ≡ counts_for r cells modes
  pub counts_sum : sum c.modes ≡ length cells
  pub queued : c.queued ≡ queued_of r.critical cells
  pub signs : SignsAgree modes c.queued

-- what the call promises
pub record Reads (r : Road) (cells : List ℕ) (up down : ℕ) (letters next-letters modes next_modes : List ℕ) (a : StateReading) : Type 0 where
  pub answer : a ≡ read_answer r cells up down (length letters) (length modes)
  pub number : read_number a.answer ≡ (read_refusal r cells up down (length letters) (length modes)).number
  pub place : read_place a.answer ≡ (read_refusal r cells up down (length letters) (length modes)).place
  pub letters_written : next-letters ≡ read_letters r cells up down letters modes
  pub modes_written : next_modes ≡ read_modes r cells up down letters modes
  pub judged : ReadJudged r cells up down (length letters) (length modes) (refused (read_number a.answer) (read_place a.answer))
  -- demand 2, of an accepted call: of the letters, modes and counts handed back
  pub state : a.answer ≡ Done tt → ReadState r cells up down next-letters next_modes a.counts
