-- The values of a key: what its lines give, in their order, and where a list of them is stored.
use Rattle.std.specs.Prelude.{◌≡◌, List, [], ◌∷◌, ◌++◌, ℕ, suc, ◌+◌, min, length, set, replicate, position, Option, Result, Ok, Err}
use Rattle.std.specs.Option.{option_map}
use Rattle.choice.specs.Choice.{pick}
use Rattle.cli_vocabulary.specs.Pieces.{lines, words}
use Rattle.cli_vocabulary.specs.Items.{item_of}
use Rattle.cli_vocabulary.specs.Keys.{is_key, key_named, key_of}
use Rattle.cli_vocabulary.specs.declared.faults.Fault.{Fault}
use Rattle.cli_vocabulary.specs.declared.items.Item.{Item}
use Rattle.cli_vocabulary.specs.declared.keys.Key.{Key}

-- what a word stands for; nothing where it is wrong
abbrev pub taken : Result Item Fault → List ℕ
taken (Ok x) = replicate x.times x.value
taken (Err e) = []

-- the values that words stand for
unfoldable pub all_values : Key → List (List ℕ) → List ℕ
all_values key [] = []
all_values key (w ∷ ws) = taken (item_of key w) ++ all_values key ws

-- what a line gives to a key
unfoldable pub given : Key → List (List ℕ) → List ℕ
given key [] = []
given key (w ∷ ws) = pick (is_key key (key_named w)) (all_values key ws) []

-- what several lines give to a key
unfoldable pub gathered : Key → List (List ℕ) → List ℕ
gathered key [] = []
gathered key (l ∷ ls) = given key (words l) ++ gathered key ls

-- the values of a key in a text
abbrev pub values_of : Key → List ℕ → List ℕ
values_of key text = gathered key (lines text)

-- a list with vs written over it from place k on, as far as it goes
unfoldable pub overlaid : List ℕ → ℕ → List ℕ → List ℕ
overlaid out k [] = out
overlaid out k (v ∷ vs) = overlaid (set out k v) (suc k) vs

-- vs stored from place k on: what the list then holds, and how far it is then filled
pub record Stored (out next : List ℕ) (k : ℕ) (vs : List ℕ) (r : ℕ) : Type 0 where
  pub list : next ≡ overlaid out k vs
  pub filled : r ≡ min (k + length vs) (length out)

-- the first line of a key; lines count from 1
abbrev pub line_of : Key → List ℕ → Option ℕ
line_of key text = option_map (λ place. place + 1) (position (λ line. is_key key (key_of (words line))) (lines text))
