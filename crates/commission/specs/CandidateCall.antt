-- The candidate prediction among the public calls: the numbers of its checks, what it did with any input, and what it made of an accepted one.
use Rattle.std.specs.Prelude.{◌≡◌, true, false, List, [], ◌∷◌, ℕ, ◌≤◌, Float}
use Rattle.refusal.specs.Table.{refused}
use Rattle.refusal.specs.Outcome.{Outcome as Refusal}
use Rattle.road.specs.declared.Road.{Road}
use Rattle.candidate.specs.declared.candidates.CandidateResult.{CandidateResult}
use Rattle.candidate.specs.Answers.{CandidateAnswer}
use Rattle.refusal.specs.Answer.{Done}
use Rattle.candidate.specs.Candidate.{bad_estimate, candidate_checks, meaning, CandidateChecked, Candidates}
use Rattle.welgadou.specs.Level2.{CandidatePredicted}
use Rattle.commission.specs.Outcome.{Outcome}

-- "candidate 1–4, 13, 14"
abbrev pub candidate_numbers : List ℕ
candidate_numbers = 1 ∷ 2 ∷ 3 ∷ 4 ∷ 13 ∷ 14 ∷ []

-- the place of 14: "1, 2 or 3, lowest first"
abbrev pub EstimatePlace : Road → Float → Float → Float → Refusal → Type 0
EstimatePlace r left own right f =
    f.number ≡ 14
    → (1 ≤ f.place)
    × (f.place ≤ 3)
    × (f.place ≡ 1 → bad_estimate r.jam left ≡ true)
    × (f.place ≡ 2 → (bad_estimate r.jam left ≡ false) × (bad_estimate r.jam own ≡ true))
    × (f.place ≡ 3 → (bad_estimate r.jam left ≡ false) × (bad_estimate r.jam own ≡ false) × (bad_estimate r.jam right ≡ true))

-- what came of it: f the refusal that came back
abbrev pub candidate_outcome : Road → ℕ → Float → Float → Float → Refusal → Type 0 → Type 0 → Outcome
candidate_outcome r mode left own right f Kept Made = record {
  checks = candidate_checks r mode left own right;
  numbers = candidate_numbers;
  Checked = CandidateChecked r mode left own right;
  Placed = EstimatePlace r left own right;
  refusal = f;
  Kept = Kept;
  Made = Made;
}

pub data CalledCandidate : Outcome → Type 1 where
  candidate : {r : Road} {mode : ℕ} {left own right : Float} {a : CandidateAnswer}
      → Candidates r mode left own right a
      → CalledCandidate (candidate_outcome r mode left own right (refused (meaning a).number (meaning a).place) (Unit {0}) ((p : CandidateResult) × (a ≡ Done p)))
  welgadou_candidate : {r : Road} {mode : ℕ} {left own right numerator numerator-next : Float} {place number : ℕ}
      → CandidatePredicted r mode left own right numerator numerator-next place number
      → CalledCandidate (candidate_outcome r mode left own right (refused number place) (numerator-next ≡ numerator) (Unit {0}))

-- what an accepted call was given and what it made
pub record AcceptedCandidate : Type 0 where
  pub road : Road
  pub mode : ℕ
  pub left : Float
  pub own : Float
  pub right : Float
  pub numerator : Float

pub data CandidateMade : AcceptedCandidate → Type 0 where
  candidate : {r : Road} {mode : ℕ} {left own right : Float} {a : CandidateAnswer} {p : CandidateResult}
      → Candidates r mode left own right a → a ≡ Done p
      → CandidateMade (record { road = r; mode = mode; left = left; own = own; right = right; numerator = p.numerator })
  welgadou_candidate : {r : Road} {mode : ℕ} {left own right numerator numerator-next : Float} {place number : ℕ}
      → CandidatePredicted r mode left own right numerator numerator-next place number → number ≡ 0
      → CandidateMade (record { road = r; mode = mode; left = left; own = own; right = right; numerator = numerator-next })
