-- Numbers: whole, decimal, of digits alone.
use Rattle.std.specs.Prelude.{Bool, not, ◌&&◌, ◌==◌, List, [], ◌∷◌, ℕ, ◌+◌, ◌-◌, ◌*◌, leb, length, Result, Ok, Err}
use Rattle.std.specs.List.{list_all}
use Rattle.std.specs.Char.{is_ascii_digit}
use Rattle.choice.specs.Choice.{pick}
use Rattle.cli_vocabulary.specs.declared.faults.Fault.{Fault}
use Rattle.cli_vocabulary.specs.declared.faults.Fault.TheVariants.{NotANumber, TooLarge}

abbrev pub all_digits : List ℕ → Bool
all_digits word = list_all is_ascii_digit word

-- the number that the digits go on to write after n
unfoldable pub decimal_from : ℕ → List ℕ → ℕ
decimal_from n [] = n
decimal_from n (b ∷ bs) = decimal_from (n * 10 + (b - 48)) bs

-- at least one byte, digits alone
abbrev pub is_number : List ℕ → Bool
is_number word = not (length word == 0) && all_digits word

-- a number of at most the most, or that it is too large
unfoldable pub at_most : ℕ → ℕ → Result ℕ Fault
at_most most n = pick (leb n most) (Ok n) (Err TooLarge)

-- a word as a number, or what is wrong with it
unfoldable pub number_of : ℕ → List ℕ → Result ℕ Fault
number_of most word = pick (is_number word) (at_most most (decimal_from 0 word)) (Err NotANumber)
