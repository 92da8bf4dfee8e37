-- What reading and fit test answer, read off their results, as document 01 tells it.
use Rattle.std.specs.Prelude.{Bool, true, false, [], ◌∷◌, Option, None, Some, Result, Ok, Err, ℕ}
use Rattle.refusal.specs.Answer.{Answer, Done, Refused, outcome_of}
use Rattle.refusal.specs.declared.Refusal.{Refusal}
use Rattle.modes.specs.declared.reading.Counts.{Counts}

-- whether a reading was made
abbrev pub ReadAnswer : Type 0
ReadAnswer = Answer (Unit {0})

-- that beside its counts, all 0 when refused
pub record StateReading : Type 0 where
  pub answer : ReadAnswer
  pub counts : Counts

-- no counts
abbrev pub no_counts : Counts
no_counts = record { modes = 0 ∷ 0 ∷ 0 ∷ 0 ∷ 0 ∷ 0 ∷ 0 ∷ []; queued = 0 }

abbrev pub reading_of : Result Counts Refusal → StateReading
reading_of (Ok c) = record { answer = Done tt; counts = c }
reading_of (Err f) = record { answer = Refused (outcome_of f); counts = no_counts }

-- whether all faces of the word hold, or the lowest face that does not (0 where all hold)
pub record FitResult : Type 0 where
  pub holds : Bool
  pub face : ℕ

abbrev pub FitAnswer : Type 0
FitAnswer = Answer FitResult

abbrev pub comparison_of : Option ℕ → FitResult
comparison_of None = record { holds = true; face = 0 }
comparison_of (Some face) = record { holds = false; face = face }

abbrev pub fit_of : Result (Option ℕ) Refusal → FitAnswer
fit_of (Ok found) = Done (comparison_of found)
fit_of (Err f) = Refused (outcome_of f)
