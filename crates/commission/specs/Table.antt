-- The refusal table of documents 01 and 02, up to E9, whole: its numbers in their order, each with the check that bears it, by name, of whatever that is given.
-- "These and all later numbers join document 01's table" (document 02, E1). The places that they report stand in the checks themselves.
use Rattle.std.specs.Prelude.{List, [], ◌∷◌, ℕ, Float}
use Rattle.refusal.specs.Table.{Check}
use Rattle.road.specs.Judgement.{divisor_check, speeds_check, densities_check, balance_check}
use Rattle.road.specs.declared.Road.{Road}
use Rattle.checks.specs.Checks.{cells_check, horizon_check, ends_check, output_check, outputs_check, cell_check, up_check, down_check, caps_check}
use Rattle.scheme.specs.declared.many_steps.Totals.{Totals}
use Rattle.forecast.specs.Forecast.{total_check}
use Rattle.words.specs.Judging.{word_check}
use Rattle.candidate.specs.Candidate.{mode_check, estimates_check}
use Rattle.counting.specs.Count.{count_check}
use Rattle.station.specs.declared.stations.StationReading.{StationReading}
use Rattle.station.specs.Station.{given_check, fast_check, result_check}

pub data Named : ℕ → Check → Type 0 where
  -- Road
  divisor : (r : Road) → Named 1 (divisor_check r)
  speeds : (r : Road) → Named 2 (speeds_check r)
  densities : (r : Road) → Named 3 (densities_check r)
  balance : (r : Road) → Named 4 (balance_check r)
  -- Lists; 8 of a call with one output, and of one with two
  cells : (n : ℕ) → Named 5 (cells_check n)
  horizon : (t : ℕ) → Named 6 (horizon_check t)
  ends : (t ups downs : ℕ) → Named 7 (ends_check t ups downs)
  output : (expected given : ℕ) → Named 8 (output_check expected given)
  outputs : (expected given expected' given' : ℕ) → Named 8 (outputs_check expected given expected' given')
  -- Values
  cell : (r : Road) (xs : List ℕ) → Named 9 (cell_check r xs)
  up : (r : Road) (xs : List ℕ) → Named 10 (up_check r xs)
  down : (r : Road) (xs : List ℕ) → Named 11 (down_check r xs)
  -- Word
  word : (n : ℕ) (letters : List ℕ) → Named 12 (word_check n letters)
  -- Candidate
  mode : (m : ℕ) → Named 13 (mode_check m)
  estimates : (r : Road) (left own right : Float) → Named 14 (estimates_check r left own right)
  -- Count
  count : (n : ℕ) → Named 15 (count_check n)
  -- document 02: E1, E4 and E7
  given : (x : StationReading) → Named 16 (given_check x)
  fast : (r : Road) (x : StationReading) → Named 17 (fast_check r x)
  result : (r : Road) (x : StationReading) → Named 18 (result_check r x)
  total : (so_far own : Totals) → Named 19 (total_check so_far own)
  caps : (n m : ℕ) → Named 20 (caps_check n m)

-- each of a call's checks is the table's own of its number
abbrev pub AllNamed : List Check → Type 0
AllNamed [] = Unit {0}
AllNamed (c ∷ cs) = Named c.number c × AllNamed cs
