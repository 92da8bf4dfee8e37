-- What a call answers, read off its result: what it gives, or the refusal with the table's number and place.
use Rattle.std.specs.Prelude.{ℕ, Result, Ok, Err}
use Rattle.refusal.specs.Outcome.{Outcome}
use Rattle.refusal.specs.Table.{passed, refused}
use Rattle.refusal.specs.declared.Refusal.{Refusal}
use Rattle.refusal.specs.declared.Refusal.TheVariants.{Divisor, Speeds, Densities, Balance, Cells, Horizon, Ends, Output, Cell, Upstream, Downstream, Word, Mode, Estimate, WordCount, StationNumber, StationSpeed, StationDensity, Totals, Caps}

-- the number of a refusal
abbrev pub number_of : Refusal → ℕ
number_of Divisor = 1
number_of Speeds = 2
number_of Densities = 3
number_of Balance = 4
number_of Cells = 5
number_of Horizon = 6
number_of Ends = 7
number_of Output = 8
number_of (Cell place) = 9
number_of (Upstream place) = 10
number_of (Downstream place) = 11
number_of (Word place) = 12
number_of Mode = 13
number_of (Estimate place) = 14
number_of WordCount = 15
number_of StationNumber = 16
number_of StationSpeed = 17
number_of StationDensity = 18
number_of Totals = 19
number_of Caps = 20

-- its place, 0 where the table has none
abbrev pub place_of : Refusal → ℕ
place_of Divisor = 0
place_of Speeds = 0
place_of Densities = 0
place_of Balance = 0
place_of Cells = 0
place_of Horizon = 0
place_of Ends = 0
place_of Output = 0
place_of (Cell place) = place
place_of (Upstream place) = place
place_of (Downstream place) = place
place_of (Word place) = place
place_of Mode = 0
place_of (Estimate place) = place
place_of WordCount = 0
place_of StationNumber = 0
place_of StationSpeed = 0
place_of StationDensity = 0
place_of Totals = 0
place_of Caps = 0

-- what a refusal tells: its number and place
abbrev pub outcome_of : Refusal → Outcome
outcome_of f = refused (number_of f) (place_of f)

-- what a call gives, or its refusal
pub data Answer (A : Type 0) : Type 0 where
  Done : A → Answer A
  Refused : Outcome → Answer A

-- the answer that a result is; nothing of it is lost (`answer_apart`)
abbrev pub answer_of : {A : Type 0} → Result A Refusal → Answer A
answer_of (Ok a) = Done a
answer_of (Err f) = Refused (outcome_of f)

-- what a judgement comes to by its result: nothing refused, or its refusal
abbrev pub judged_of : {A : Type 0} → Result A Refusal → Outcome
judged_of (Ok a) = passed
judged_of (Err f) = outcome_of f
