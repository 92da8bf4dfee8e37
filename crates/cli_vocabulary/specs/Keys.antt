-- Keys: the keywords of a scenario, one row each: key, name, how many values, how large they may be.
use Rattle.std.specs.Prelude.{Bool, true, false, List, [], ◌∷◌, ℕ, Option, Some, None, eqb}
use Prim.Native.String.{String}
use denote.Enum.Declared.{tag_of}
use Rattle.choice.specs.Choice.{pick, both}
use Rattle.cli_vocabulary.specs.Ascii.{ascii}
use Rattle.cli_vocabulary.specs.declared.keys.Key.{Key}
use Rattle.cli_vocabulary.specs.declared.keys.Key.TheVariants.{Road, Cells, Upstream, Downstream, Pair, Horizon, Word, Mode, Estimates, Bits, Forecast, Settle, Read, Fit, Rows, Candidate, Count, End, Density, Flow, Speed, Station, Readlast, Nearest, Totals, Caps}
use Rattle.cli_vocabulary.specs.declared.keys.Values.{Values}
use Rattle.cli_vocabulary.specs.declared.keys.Values.TheVariants.{Many, Exactly}
use Rattle.cli_vocabulary.specs.declared.keys.Row.{Row}
use Rattle.cli_vocabulary.specs.contracts.keys.Key.{the_type}

-- the largest number: a code or a mode is one byte, a bit pattern or a total 64 bits, any other number 32 bits
abbrev pub byte : ℕ
byte = 255

abbrev pub number : ℕ
number = 4294967295

abbrev pub wide : ℕ
wide = 18446744073709551615

-- a keyword's row: its key; its name, padded with blanks to ten letters; how many values a line takes: so many, or one or more, which are joined
-- to those of the key's other lines and may be runs; the largest number
abbrev pub row : Key → String → Values → ℕ → Row
row key name values most = record { 0 = key; 1 = ascii name; 2 = values; 3 = most }

unfoldable pub key_row : Key → Row
key_row Road = row Road "road      " (Exactly 5) number
key_row Cells = row Cells "cells     " Many number
key_row Upstream = row Upstream "upstream  " Many number
key_row Downstream = row Downstream "downstream" Many number
key_row Pair = row Pair "pair      " (Exactly 2) number
key_row Horizon = row Horizon "horizon   " (Exactly 1) number
key_row Word = row Word "word      " Many byte
key_row Mode = row Mode "mode      " (Exactly 1) byte
key_row Estimates = row Estimates "estimates " (Exactly 3) number
key_row Bits = row Bits "bits      " (Exactly 3) wide
key_row Forecast = row Forecast "forecast  " (Exactly 0) number
key_row Settle = row Settle "settle    " (Exactly 0) number
key_row Read = row Read "read      " (Exactly 0) number
key_row Fit = row Fit "fit       " (Exactly 0) number
key_row Rows = row Rows "rows      " (Exactly 0) number
key_row Candidate = row Candidate "candidate " (Exactly 0) number
key_row Count = row Count "count     " (Exactly 1) number
key_row End = row End "end       " (Exactly 0) number
key_row Density = row Density "density   " (Exactly 2) number
key_row Flow = row Flow "flow      " (Exactly 2) number
key_row Speed = row Speed "speed     " (Exactly 2) number
key_row Station = row Station "station   " (Exactly 0) number
key_row Readlast = row Readlast "readlast  " (Exactly 0) number
key_row Nearest = row Nearest "nearest   " (Exactly 0) number
key_row Totals = row Totals "totals    " (Exactly 2) wide
key_row Caps = row Caps "caps      " Many number

-- what there is to say of a key
abbrev pub keyword : Key → List ℕ
keyword key = (key_row key).1

abbrev pub values_of : Key → Values
values_of key = (key_row key).2

abbrev pub most_of : Key → ℕ
most_of key = (key_row key).3

-- the keys, in the order of their rows
unfoldable pub keys : List Key
keys =
    Road ∷ Cells ∷ Upstream ∷ Downstream ∷ Pair ∷ Horizon ∷ Word ∷ Mode ∷ Estimates ∷ Bits ∷ Forecast ∷ Settle ∷ Read ∷ Fit ∷ Rows ∷ Candidate ∷ Count ∷ End
    ∷ Density ∷ Flow ∷ Speed ∷ Station ∷ Readlast ∷ Nearest ∷ Totals ∷ Caps ∷ []

-- how many keys there are (`rows_counted`)
abbrev pub key_count : ℕ
key_count = 26

-- a key's place among them, from 0
abbrev pub place : Key → ℕ
place key = tag_of the_type key

-- whether what may be a key is this one
abbrev pub is_key : Key → Option Key → Bool
is_key key None = false
is_key key (Some other) = eqb (place other) (place key)

-- whether a word, padded with blanks, is the name
unfoldable pub is_name : List ℕ → List ℕ → Bool
is_name [] [] = true
is_name (b ∷ bs) [] = false
is_name [] (c ∷ cs) = both (eqb 32 c) (is_name [] cs)
is_name (b ∷ bs) (c ∷ cs) = both (eqb b c) (is_name bs cs)

-- the first key that has a word for its name
unfoldable pub named_in : List Key → List ℕ → Option Key
named_in [] word = None
named_in (k ∷ ks) word = pick (is_name word (keyword k)) (Some k) (named_in ks word)

-- a word's key
unfoldable pub key_named : List ℕ → Option Key
key_named word = named_in keys word

-- a line's key: that of its first word, if any
abbrev pub key_of : List (List ℕ) → Option Key
key_of [] = None
key_of (w ∷ ws) = key_named w
