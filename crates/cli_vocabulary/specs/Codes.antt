-- Keys by their codes, any number: a key's code is its place, from 0; what is no key has one of the two after these.
use Rattle.std.specs.Prelude.{List, [], ◌∷◌, ℕ, ◌+◌, Option, Some, None, Result, Ok, slice_get}
use Rattle.cli_vocabulary.specs.Ascii.{ascii}
use Rattle.cli_vocabulary.specs.Numbers.{number_of}
use Rattle.cli_vocabulary.specs.Keys.{number, keyword, values_of, most_of, keys, key_count, place, key_named}
use Rattle.cli_vocabulary.specs.Items.{times_of, item_of}
use Rattle.cli_vocabulary.specs.declared.faults.Fault.{Fault}
use Rattle.cli_vocabulary.specs.declared.items.Item.{Item}
use Rattle.cli_vocabulary.specs.declared.keys.Key.{Key}
use Rattle.cli_vocabulary.specs.declared.keys.Values.TheVariants.{Exactly}
use Rattle.cli_vocabulary.specs.declared.codes.Entry.{Entry}

-- the code of a word that is no keyword
abbrev pub unknown_key : ℕ
unknown_key = key_count

-- the code of a line without words
abbrev pub key_none : ℕ
key_none = key_count + 1

-- the key of a code
abbrev pub key_at : ℕ → Option Key
key_at code = slice_get keys code

-- what is no key: no name, and no values
abbrev pub none : Entry
none = record { name = ascii "          "; values = Exactly 0; most = number }

-- what there is to say of a code
abbrev pub entry_at : Option Key → Entry
entry_at None = none
entry_at (Some key) = record { name = keyword key; values = values_of key; most = most_of key }

abbrev pub entry_of : ℕ → Entry
entry_of code = entry_at (key_at code)

-- a word's code
abbrev pub code_at : Option Key → ℕ
code_at None = unknown_key
code_at (Some key) = place key

abbrev pub key_code : List ℕ → ℕ
key_code word = code_at (key_named word)

-- a line's code: that of its first word
abbrev pub line_code : List (List ℕ) → ℕ
line_code [] = key_none
line_code (w ∷ ws) = key_code w

-- a number alone, which stands once
abbrev pub lone_number : List ℕ → Result Item Fault
lone_number w = times_of (number_of number w) (Ok 1)

-- a word of a line as a value: of a code's key; for a code of no key a number alone
abbrev pub item_at : Option Key → List ℕ → Result Item Fault
item_at None w = lone_number w
item_at (Some key) w = item_of key w

abbrev pub item_of_code : ℕ → List ℕ → Result Item Fault
item_of_code code w = item_at (key_at code) w
