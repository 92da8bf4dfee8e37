-- The reader by codes, of any number: what the lines of a text give to a code, its first line, and what is wrong with its values.
use Rattle.std.specs.Prelude.{List, [], ◌∷◌, ◌++◌, ℕ, ◌+◌, eqb, position, Option, Some, None, Ok}
use Rattle.choice.specs.Choice.{pick}
use Rattle.cli_vocabulary.specs.Pieces.{lines, words}
use Rattle.cli_vocabulary.specs.Codes.{key_code, line_code, item_of_code}
use Rattle.cli_scenario.specs.Values.{taken}
use Rattle.cli_scenario.specs.Judging.{Judged, first_wrong}

-- the first wrong value of a line
unfoldable pub wrong_value : ℕ → List (List ℕ) → Judged
wrong_value code [] = Ok tt
wrong_value code (w ∷ ws) = first_wrong (item_of_code code w) (wrong_value code ws)

-- the values that words stand for
unfoldable pub all_values : ℕ → List (List ℕ) → List ℕ
all_values code [] = []
all_values code (w ∷ ws) = taken (item_of_code code w) ++ all_values code ws

-- what a line gives to a code: to that of no keyword, what a line with an unknown one has; to that of no words, nothing
unfoldable pub given : ℕ → List (List ℕ) → List ℕ
given code [] = []
given code (w ∷ ws) = pick (eqb (key_code w) code) (all_values code ws) []

-- what several lines give to a code
unfoldable pub gathered : ℕ → List (List ℕ) → List ℕ
gathered code [] = []
gathered code (l ∷ ls) = given code (words l) ++ gathered code ls

-- the values of a code in a text
abbrev pub values_of : ℕ → List ℕ → List ℕ
values_of code text = gathered code (lines text)

-- a line's number, by how many stand before it; 0 stands for none
abbrev pub numbered : Option ℕ → ℕ
numbered None = 0
numbered (Some place) = place + 1

-- the first line of a code; lines count from 1
abbrev pub line_of : ℕ → List ℕ → ℕ
line_of code text = numbered (position (λ line. eqb (line_code (words line)) code) (lines text))
