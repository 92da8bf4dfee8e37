-- Candidate prediction: one mode's row applied to three float estimates (document 01, "Seven modes", checks 13 and 14).
use Rattle.std.specs.Prelude.{◌≡◌, ℕ, ◌≤◌, Bool, true, false, List, [], ◌∷◌, ◌++◌, ℤ, pos, ◌≢◌, from_bits, Float}
use Rattle.std.specs.Float.{fin, binary64}
use Rattle.std.specs.Float.Ieee.{add, mul, lt, ne, of_int}
use Rattle.choice.specs.Choice.{pick, or}
use Rattle.refusal.specs.Table.{Check, check, judge, refused, Judged, unless_refused}
use Rattle.road.specs.Judgement.{road_checks, outside, Accepted}
use Rattle.road.specs.declared.Road.{Road}
use Rattle.refusal.specs.Outcome.{Outcome}
use Rattle.floats.specs.Worth.{Worth, FiniteUpTo}
use Rattle.rows.specs.Rows.{row_value}
use Rattle.rows.specs.Coefficients.{left_coefficient, own_coefficient, right_coefficient, constant_of}
use Rattle.candidate.specs.declared.candidates.CandidateRow.{CandidateRow}
use Rattle.candidate.specs.declared.candidates.CandidateResult.{CandidateResult}
use Rattle.candidate.specs.Answers.{CandidateAnswer}
use Rattle.refusal.specs.Answer.{Done, Refused}

-- "three float coefficients and a float constant, each exactly the whole number"
unfoldable pub row_for : Road → ℕ → CandidateRow
row_for r mode = record {
  left = of_int binary64 (left_coefficient r mode);
  own = of_int binary64 (own_coefficient r mode);
  right = of_int binary64 (right_coefficient r mode);
  constant = of_int binary64 (constant_of r mode);
}

-- "left × coefficient plus own × coefficient, then plus right × coefficient, then plus the constant, each operation rounded once"
abbrev pub applied : CandidateRow → Float → Float → Float → Float
applied row left own right =
    add binary64 (add binary64 (add binary64 (mul binary64 left row.left) (mul binary64 own row.own)) (mul binary64 right row.right)) row.constant

-- an estimate that is not a number, below 0 or above j. −0.0 is not below 0, and infinity is above j
abbrev pub bad_estimate : ℕ → Float → Bool
bad_estimate j x = or (ne x x) (or (lt x (from_bits binary64 0)) (lt (of_int binary64 (pos j)) x))

-- 14: one of the three is bad; its place is 1, 2 or 3, lowest first
abbrev pub bad_estimates : ℕ → Float → Float → Float → Bool
bad_estimates j left own right = or (bad_estimate j left) (or (bad_estimate j own) (bad_estimate j right))

abbrev pub estimate_place : ℕ → Float → Float → ℕ
estimate_place j left own = pick (bad_estimate j left) 1 (pick (bad_estimate j own) 2 3)

-- checks 13, a mode outside 1 to 7, and 14
abbrev pub mode_check : ℕ → Check
mode_check mode = check (outside 1 7 mode) 13 0

abbrev pub estimates_check : Road → Float → Float → Float → Check
estimates_check r left own right = check (bad_estimates r.jam left own right) 14 (estimate_place r.jam left own)

abbrev pub estimate_checks : Road → ℕ → Float → Float → Float → List Check
estimate_checks r mode left own right = mode_check mode ∷ estimates_check r left own right ∷ []

-- "candidate 1–4, 13, 14"
abbrev pub candidate_checks : Road → ℕ → Float → Float → Float → List Check
candidate_checks r mode left own right = road_checks r ++ estimate_checks r mode left own right

unfoldable pub candidate_refusal : Road → ℕ → Float → Float → Float → Outcome
candidate_refusal r mode left own right = judge (candidate_checks r mode left own right)

-- the numerator that the row predicts
abbrev pub candidate_numerator : Road → ℕ → Float → Float → Float → Float
candidate_numerator r mode left own right = applied (row_for r mode) left own right

unfoldable pub candidate_answer : Road → ℕ → Float → Float → Float → CandidateAnswer
candidate_answer r mode left own right =
    unless_refused (candidate_refusal r mode left own right)
    (Done (record { numerator = candidate_numerator r mode left own right }))
    (Refused (candidate_refusal r mode left own right))

-- the paper's numbers of an answer: number (0 when accepted), place, the numerator (0.0 when refused)
pub record Meaning : Type 0 where
  pub number : ℕ
  pub place : ℕ
  pub value : Float

abbrev pub meaning : CandidateAnswer → Meaning
meaning (Done p) = record { number = 0; place = 0; value = p.numerator }
meaning (Refused f) = record { number = f.number; place = f.place; value = from_bits binary64 0 }

unfoldable pub candidate_meaning : Road → ℕ → Float → Float → Float → Meaning
candidate_meaning r mode left own right = record {
  number = (candidate_refusal r mode left own right).number;
  place = (candidate_refusal r mode left own right).place;
  value = unless_refused (candidate_refusal r mode left own right) (candidate_numerator r mode left own right) (from_bits binary64 0);
}

-- what an input that no check refuses is: each estimate a finite number from 0 to J
pub record CandidateChecked (r : Road) (mode : ℕ) (left own right : Float) : Type 0 where
  pub accepted : Accepted r
  pub mode_low : 1 ≤ mode
  pub mode_high : mode ≤ 7
  pub left_finite : FiniteUpTo r.jam left
  pub own_finite : FiniteUpTo r.jam own
  pub right_finite : FiniteUpTo r.jam right

-- a place that 14 reports, 1, 2 or 3: the estimate there is bad, and no earlier one is
pub record EstimatePlaced (left own right : Bool) (place : ℕ) : Type 0 where
  pub low : 1 ≤ place
  pub high : place ≤ 3
  pub first : place ≡ 1 → left ≡ true
  pub second : place ≡ 2 → (left ≡ false) × (own ≡ true)
  pub third : place ≡ 3 → (left ≡ false) × (own ≡ false) × (right ≡ true)

-- the place of 14 among the three estimates
abbrev pub CandidatePlaced : Road → Float → Float → Float → Outcome → Type 0
CandidatePlaced r left own right f =
    f.number ≡ 14 → EstimatePlaced (bad_estimate r.jam left) (bad_estimate r.jam own) (bad_estimate r.jam right) f.place

-- demand 1 of a refusal, of the candidate's checks
abbrev pub CandidateJudged : Road → ℕ → Float → Float → Float → Outcome → Type 0
CandidateJudged r mode left own right f =
    Judged (candidate_checks r mode left own right) (CandidateChecked r mode left own right) (CandidatePlaced r left own right) f

-- the float is exactly the whole numerator z
pub record Whole (x : Float) (z : ℤ) : Type 0 where
  pub same : x ≡ of_int binary64 z
  pub worth : Worth x z

-- "A candidate row is three float coefficients and a float constant, each exactly the whole number"
pub record RowWhole (r : Road) (mode : ℕ) : Type 0 where
  pub left : Worth (row_for r mode).left (left_coefficient r mode)
  pub own : Worth (row_for r mode).own (own_coefficient r mode)
  pub right : Worth (row_for r mode).right (right_coefficient r mode)
  pub constant : Worth (row_for r mode).constant (constant_of r mode)

-- what the call promises; the estimates of an accepted call are whole only as naturals, as `whole_estimate` shows
pub record Candidates (r : Road) (mode : ℕ) (left own right : Float) (a : CandidateAnswer) : Type 0 where
  pub answer : a ≡ candidate_answer r mode left own right
  pub means : meaning a ≡ candidate_meaning r mode left own right
  pub judged : CandidateJudged r mode left own right (refused (meaning a).number (meaning a).place)
  -- demand 2, of an accepted call: the row's numbers are exact, and where all three estimates are whole the result is the whole numerator
  pub row_whole : (p : CandidateResult) → a ≡ Done p → RowWhole r mode
  pub exact : (p : CandidateResult) → a ≡ Done p → (l o t : ℕ) → Worth left (pos l) → Worth own (pos o) → Worth right (pos t)
      → Whole p.numerator (row_value r mode l o t)
  -- never −0.0, whole estimates or not
  pub plain : (p : CandidateResult) → a ≡ Done p → (e : ℤ) → p.numerator ≢ fin true 0 e
