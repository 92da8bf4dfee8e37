-- The starred cases of document 01, "Road A at its edges", rounded as document 02, E2, says, with open caps (E7), still as E8 has it: one record, one field a starred value.
use Rattle.std.specs.Prelude.{◌≡◌, true, List, [], ◌∷◌, ℕ, pos, negsuc, length}
use Rattle.road.specs.declared.Road.{Road}
use Rattle.flux.specs.Face.{numerator, units, letter_w, letter_l, letter_d, letter}
use Rattle.scheme.specs.Rounded.{open_caps}
use Rattle.scheme.specs.Exact.{exact_step}
use Rattle.scheme.specs.declared.many_steps.Totals.{Totals}
use Rattle.forecast.specs.Forecast as Forecast
use Rattle.forecast.specs.Settle as Settle
use Rattle.modes.specs.Reading.{read_letters, read_modes}
use Rattle.rows.specs.Prediction.{predicted}
use Rattle.counting.specs.Count.{count_answer}
use Rattle.counting.specs.Answers.{CountAnswer}
use Rattle.refusal.specs.Answer.{Done}

-- Road A: J 1000, C 200, D 5, p 4, q 1
abbrev pub road_a : Road
road_a = record { divisor = 5; free = 4; wave = 1; jam = 1000; critical = 200 }

-- the units moved over a face of road A
abbrev pub moves : ℕ → ℕ → ℕ
moves a b = units road_a (numerator road_a a b)

-- totals since commissioning, and both 0
abbrev pub totals : ℕ → ℕ → Totals
totals entered left = record { entered = entered; left = left }

abbrev pub none : Totals
none = totals 0 0

-- one step of road A from some cells between two ends, with totals of 0: what the forecast reports and hands back
abbrev pub one_step : List ℕ → ℕ → ℕ → Forecast.Meaning
one_step cells up down = Forecast.meaning (Forecast.forecast_answer road_a (open_caps (length cells)) cells (up ∷ []) (down ∷ []) 1 none (length cells))

abbrev pub one_step_cells : List ℕ → ℕ → ℕ → List ℕ
one_step_cells cells up down = Forecast.forecast_cells road_a (open_caps (length cells)) cells (up ∷ []) (down ∷ []) 1 none cells

-- the starred three cells
abbrev pub three : List ℕ
three = 300 ∷ 150 ∷ 700 ∷ []

-- their reading between the ends 100 and 0: what it leaves in two lists that held zeros
abbrev pub three_letters : List ℕ
three_letters = read_letters road_a three 100 0 (0 ∷ 0 ∷ 0 ∷ 0 ∷ []) (0 ∷ 0 ∷ 0 ∷ [])

abbrev pub three_modes : List ℕ
three_modes = read_modes road_a three 100 0 (0 ∷ 0 ∷ 0 ∷ 0 ∷ []) (0 ∷ 0 ∷ 0 ∷ [])

-- the starred settling run: one cell 2, ends 0, T 9
abbrev pub settling : Settle.Meaning
settling = Settle.meaning (Settle.settle_answer road_a (open_caps 1) (2 ∷ []) 0 0 9 1)

-- a word count that is answered
abbrev pub answered : ℕ → CountAnswer
answered k = Done (record { words = k })

pub record Starred : Type 0 where
  -- faces: letter and units
  pub letter_200_200 : letter road_a 200 200 ≡ letter_d
  pub units_200_200 : moves 200 200 ≡ 160
  pub letter_200_201 : letter road_a 200 201 ≡ letter_w
  pub units_200_201 : moves 200 201 ≡ 160
  pub letter_201_200 : letter road_a 201 200 ≡ letter_l
  pub units_201_200 : moves 201 200 ≡ 160
  pub letter_100_600 : letter road_a 100 600 ≡ letter_d
  pub units_100_600 : moves 100 600 ≡ 80
  pub letter_100_601 : letter road_a 100 601 ≡ letter_w
  pub units_100_601 : moves 100 601 ≡ 80
  pub letter_0_1000 : letter road_a 0 1000 ≡ letter_d
  pub units_0_1000 : moves 0 1000 ≡ 0
  pub letter_1_1000 : letter road_a 1 1000 ≡ letter_w
  pub units_1_1000 : moves 1 1000 ≡ 0
  -- one cell 101, ends 0
  pub one_cell : one_step_cells (101 ∷ []) 0 0 ≡ 20 ∷ []
  pub one_entered : (one_step (101 ∷ []) 0 0).entered ≡ 0
  pub one_left : (one_step (101 ∷ []) 0 0).left ≡ 81
  pub one_exact : exact_step road_a (open_caps 1) 1 0 0 (101 ∷ []) ≡ 101 ∷ []
  -- upstream 100, cells 300, 150, 700, downstream 0
  pub three_letters_are : three_letters ≡ letter_d ∷ letter_l ∷ letter_w ∷ letter_l ∷ []
  pub three_cells : one_step_cells three 100 0 ≡ 220 ∷ 250 ∷ 600 ∷ []
  pub three_entered : (one_step three 100 0).entered ≡ 80
  pub three_modes_are : three_modes ≡ 6 ∷ 3 ∷ 2 ∷ []
  pub three_numerators : predicted road_a three 100 0 three_letters (pos 0 ∷ pos 0 ∷ pos 0 ∷ []) ≡ pos 1100 ∷ pos 1250 ∷ pos 3000 ∷ []
  pub three_left : (one_step three 100 0).left ≡ 160
  -- one cell 2, ends 0, T 9
  pub settled : settling.settled ≡ true
  pub settled_steps : settling.steps ≡ 1
  pub settled_cell : Settle.settle_output road_a (open_caps 1) (2 ∷ []) 0 0 9 (2 ∷ []) ≡ 0 ∷ []
  -- one cell 0, ends 0, word D W
  pub foreign_numerator : predicted road_a (0 ∷ []) 0 0 (letter_d ∷ letter_w ∷ []) (pos 0 ∷ []) ≡ negsuc 999 ∷ []
  -- word counts
  pub count_0 : count_answer 0 ≡ answered 3
  pub count_1 : count_answer 1 ≡ answered 7
  pub count_2 : count_answer 2 ≡ answered 16
