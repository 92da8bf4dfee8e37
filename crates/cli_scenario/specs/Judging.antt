-- The judgement of a text: the first thing wrong with it, and its line.
use Rattle.std.specs.Prelude.{Bool, false, not, List, [], ◌∷◌, ℕ, suc, eqb, ltb, length, get_or, set, replicate, true, Option, Some, None, Result, Ok, Err}
use Rattle.choice.specs.Choice.{pick}
use Rattle.cli_vocabulary.specs.Pieces.{lines, words}
use Rattle.cli_vocabulary.specs.Keys.{key_count, place, key_named, key_of, values_of}
use Rattle.cli_vocabulary.specs.Items.{item_of}
use Rattle.cli_vocabulary.specs.declared.faults.Fault.{Fault}
use Rattle.cli_vocabulary.specs.declared.faults.Fault.TheVariants.{LongLine, UnknownKey, WrongCount, GivenAgain, AfterEnd, NoEnd, EmptyText}
use Rattle.cli_vocabulary.specs.declared.keys.Key.{Key}
use Rattle.cli_vocabulary.specs.declared.keys.Key.TheVariants.{End}
use Rattle.cli_vocabulary.specs.declared.keys.Values.{Values}
use Rattle.cli_vocabulary.specs.declared.keys.Values.TheVariants.{Many, Exactly}
use Rattle.cli_scenario.specs.declared.judging.Verdict.{Verdict}
use Rattle.cli_scenario.specs.declared.judging.Progress.{Progress}

-- the longest line
abbrev pub line_ceiling : ℕ
line_ceiling = 4096

-- what is wrong, if anything
abbrev pub Judged : Type 0
Judged = Result (Unit {0}) Fault

-- what is wrong first: with this, or with what comes next
abbrev pub first_wrong : {A : Type 0} → Result A Fault → Judged → Judged
first_wrong (Err e) next = Err e
first_wrong (Ok x) next = next

-- the first wrong value of a line: no whole decimal number (in a `word` line, neither a letter nor a whole decimal number), or a run without its count;
-- a number or a run's count too large
unfoldable pub wrong_value : Key → List (List ℕ) → Judged
wrong_value key [] = Ok tt
wrong_value key (w ∷ ws) = first_wrong (item_of key w) (wrong_value key ws)

-- a list takes one value or more, another key its own number
abbrev pub wrong_count : Values → ℕ → Bool
wrong_count Many n = eqb n 0
wrong_count (Exactly count) n = not (eqb n count)

abbrev pub wrong_number : Key → ℕ → Bool
wrong_number key n = wrong_count (values_of key) n

-- what is wrong with the values of a key: their number; otherwise the first wrong value
abbrev pub wrong_values : Key → List (List ℕ) → Judged
wrong_values key ws = pick (wrong_number key (length ws)) (Err WrongCount) (wrong_value key ws)

-- what is wrong with a line's words: an unknown keyword; otherwise its values
abbrev pub wrong_known : Option Key → List (List ℕ) → Judged
wrong_known None ws = Err UnknownKey
wrong_known (Some key) ws = wrong_values key ws

abbrev pub wrong_words : List (List ℕ) → Judged
wrong_words [] = Ok tt
wrong_words (w ∷ ws) = wrong_known (key_named w) ws

-- what is wrong with a line by itself: it is too long, or its words
abbrev pub wrong_line : List ℕ → Judged
wrong_line line = pick (ltb line_ceiling (length line)) (Err LongLine) (wrong_words (words line))

-- whether a key was seen
abbrev pub is_seen : List Bool → Key → Bool
is_seen seen key = get_or seen (place key) false

-- a key was given, and is no list
abbrev pub wrong_once : Values → Bool → Judged
wrong_once Many given = Ok tt
wrong_once (Exactly count) given = pick given (Err GivenAgain) (Ok tt)

abbrev pub wrong_again : List Bool → Option Key → Judged
wrong_again seen None = Ok tt
wrong_again seen (Some key) = wrong_once (values_of key) (is_seen seen key)

-- what is wrong with a line after others: it has a word, and `end` was given; then what is wrong with it by itself; then its key was given, and is no list
abbrev pub wrong_next : List Bool → List (List ℕ) → Judged → Judged
wrong_next seen [] own = own
wrong_next seen (w ∷ ws) own = pick (is_seen seen End) (Err AfterEnd) (first_wrong own (wrong_again seen (key_named w)))

abbrev pub wrong_after : List Bool → List ℕ → Judged
wrong_after seen line = wrong_next seen (words line) (wrong_line line)

-- the keys seen, with a line's
abbrev pub with_key : List Bool → Option Key → List Bool
with_key seen None = seen
with_key seen (Some key) = set seen (place key) true

-- one line on: its number and the keys seen; or what is wrong, in which line, and that line's key
abbrev pub line_judged : Judged → ℕ → List Bool → Option Key → Result Progress Verdict
line_judged (Err e) number seen key = Err (record { fault = e; line = number; key = key })
line_judged (Ok x) number seen key = Ok (record { line = number; seen = with_key seen key })

abbrev pub judged_line : Progress → List ℕ → Result Progress Verdict
judged_line p line = line_judged (wrong_after p.seen line) (suc p.line) p.seen (key_of (words line))

-- what comes of good lines, or what is wrong
abbrev pub go_on : {A : Type 0} → Result Progress Verdict → (Progress → Result A Verdict) → Result A Verdict
go_on (Err v) next = Err v
go_on (Ok p) next = next p

-- the lines one after the other, up to the first that is wrong
unfoldable pub judged_lines : Progress → List (List ℕ) → Result Progress Verdict
judged_lines p [] = Ok p
judged_lines p (l ∷ ls) = go_on (judged_line p l) (λ q. judged_lines q ls)

-- nothing seen yet
abbrev pub at_start : Progress
at_start = record { line = 0; seen = replicate key_count false }

-- at the end of the lines: no `end` was seen
abbrev pub outcome : Progress → Result (Unit {0}) Verdict
outcome p = pick (is_seen p.seen End) (Ok tt) (Err (record { fault = NoEnd; line = p.line; key = None }))

-- the judgement of a text: it is empty, told of line 1; otherwise what its lines come to
unfoldable pub verdict : List ℕ → Result (Unit {0}) Verdict
verdict text = pick (eqb (length text) 0) (Err (record { fault = EmptyText; line = 1; key = None })) (go_on (judged_lines at_start (lines text)) outcome)
