-- Lines and words: a text cut at its marks.
use Rattle.std.specs.Prelude.{◌≡◌, Bool, List, [], ◌∷◌, ℕ, suc, ◌+◌, ◌≤◌, eqb, length, take, drop}
use Rattle.choice.specs.Choice.{pick, or}

-- the marks: newline ends a line, a blank a word; # starts a comment; ^ stands before a run's count
abbrev pub newline : ℕ
newline = 10

abbrev pub blank : ℕ
blank = 32

abbrev pub hash : ℕ
hash = 35

abbrev pub caret : ℕ
caret = 94

-- space, tab and carriage return are blanks
abbrev pub is_blank : ℕ → Bool
is_blank b = or (eqb b blank) (or (eqb b 9) (eqb b 13))

-- whether a byte is the mark that a text is cut at
abbrev pub cuts : ℕ → ℕ → Bool
cuts mark b = pick (eqb mark blank) (is_blank b) (eqb b mark)

-- how many bytes stand before the first mark; all where there is none
unfoldable pub before : ℕ → List ℕ → ℕ
before mark [] = 0
before mark (b ∷ bs) = pick (cuts mark b) 0 (suc (before mark bs))

-- where the piece that starts at a place ends: at the next mark, or with the text, and so in the text
pub record PieceEnds (text : List ℕ) (from mark end : ℕ) : Type 0 where
  pub at : end ≡ from + before mark (drop from text)
  pub after : from ≤ end
  pub inside : end ≤ length text

-- b put before the first piece, which it starts where there is none
unfoldable pub grown : ℕ → List (List ℕ) → List (List ℕ)
grown b [] = (b ∷ []) ∷ []
grown b (p ∷ ps) = (b ∷ p) ∷ ps

-- the pieces of a text, empty ones among them: each ends with a mark, the last one may end with the text
unfoldable pub split : ℕ → List ℕ → List (List ℕ)
split mark [] = []
split mark (b ∷ bs) = pick (cuts mark b) ([] ∷ split mark bs) (grown b (split mark bs))

-- the pieces that are not empty
unfoldable pub filled : List (List ℕ) → List (List ℕ)
filled [] = []
filled ([] ∷ ps) = filled ps
filled ((b ∷ bs) ∷ ps) = (b ∷ bs) ∷ filled ps

-- a piece among others, none where it is empty
abbrev pub filled_piece : List ℕ → List (List ℕ)
filled_piece p = filled (p ∷ [])

-- the lines of a text
abbrev pub lines : List ℕ → List (List ℕ)
lines text = split newline text

-- the words of a part of a line
unfoldable pub words_in : List ℕ → List (List ℕ)
words_in part = filled (split blank part)

-- the words of a line: what stands before its comment, cut at blanks
abbrev pub words : List ℕ → List (List ℕ)
words line = words_in (take (before hash line) line)
