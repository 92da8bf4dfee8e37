-- What one word of a line is as a value of a key: a number or a letter, taken a number of times.
use Rattle.std.specs.Prelude.{List, [], ◌∷◌, ℕ, ◌+◌, eqb, ltb, length, take, drop, Option, Some, None, Result, Ok, Err}
use Rattle.choice.specs.Choice.{pick}
use Rattle.cli_vocabulary.specs.Pieces.{caret, before}
use Rattle.cli_vocabulary.specs.Numbers.{number_of}
use Rattle.cli_vocabulary.specs.Keys.{values_of, most_of}
use Rattle.cli_vocabulary.specs.declared.faults.Fault.{Fault}
use Rattle.cli_vocabulary.specs.declared.keys.Key.{Key}
use Rattle.cli_vocabulary.specs.declared.keys.Key.TheVariants.{Word}
use Rattle.cli_vocabulary.specs.declared.keys.Values.{Values}
use Rattle.cli_vocabulary.specs.declared.keys.Values.TheVariants.{Many, Exactly}
use Rattle.cli_vocabulary.specs.declared.items.Item.{Item}

-- W, L and D are the codes 0, 1 and 2
abbrev pub code_of : ℕ → Option ℕ
code_of b = pick (eqb b 87) (Some 0) (pick (eqb b 76) (Some 1) (pick (eqb b 68) (Some 2) None))

-- a letter, which stands alone
abbrev pub letter_of : List ℕ → Option ℕ
letter_of [] = None
letter_of (b ∷ []) = code_of b
letter_of (b ∷ c ∷ bs) = None

-- a value without its count: a number or, in a word, a letter
abbrev pub plain_by : Option ℕ → Key → List ℕ → Result ℕ Fault
plain_by (Some code) Word w = Ok code
plain_by letter key w = number_of (most_of key) w

abbrev pub plain_of : Key → List ℕ → Result ℕ Fault
plain_of key w = plain_by (letter_of w) key w

-- a value taken a number of times; what is wrong where either is wrong, the value before its count
abbrev pub times_of : Result ℕ Fault → Result ℕ Fault → Result Item Fault
times_of (Err e) times = Err e
times_of (Ok value) (Err e) = Err e
times_of (Ok value) (Ok times) = Ok (record { value = value; times = times })

-- a value that stands once
abbrev pub single_of : Key → List ℕ → Result Item Fault
single_of key w = times_of (plain_of key w) (Ok 1)

-- a run N^K, or a value that stands once
abbrev pub run_of : Key → List ℕ → Result Item Fault
run_of key w =
    pick (ltb (before caret w) (length w))
    (times_of (plain_of key (take (before caret w) w)) (number_of 4294967295 (drop (before caret w + 1) w)))
    (single_of key w)

-- a word of a line as a value: in a list it may be a run
abbrev pub item_by : Values → Key → List ℕ → Result Item Fault
item_by Many key w = run_of key w
item_by (Exactly n) key w = single_of key w

abbrev pub item_of : Key → List ℕ → Result Item Fault
item_of key w = item_by (values_of key) key w
