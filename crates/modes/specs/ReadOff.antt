-- A state with a given legal word, which the reading accepts and reads the word off (document 01, "Seven modes").
use Rattle.std.specs.Prelude.{◌≡◌, List, [], ◌∷◌, ℕ, ◌+◌, ◌≤◌, eqb, length, get_or}
use Rattle.choice.specs.Choice.{pick, or}
use Rattle.road.specs.declared.Road.{Road}
use Rattle.flux.specs.Face.{letter_w, letter_l, letter_d}
use Rattle.scheme.specs.Word.{word_of}
use Rattle.modes.specs.Reading.{ReadChecked, Reads}
use Rattle.refusal.specs.Answer.{Done}
use Rattle.modes.specs.Answers.{StateReading}

-- a state with a given legal word, of the densities 0, C and J alone. Between the letters s and t stands J where s is W or t is L, C where t is W after L or D, and 0 otherwise
unfoldable pub between : Road → ℕ → ℕ → ℕ
between r s t = pick (or (eqb s letter_w) (eqb t letter_l)) r.jam (pick (eqb t letter_w) r.critical 0)

-- ghost 0 stands as if after D, so by the first letter W: C, L: J, D: 0
unfoldable pub upstream_of : Road → List ℕ → ℕ
upstream_of r word = between r letter_d (get_or word 0 letter_d)

-- ghost n+1 stands as if before D, so by the last letter W: J, else 0
unfoldable pub downstream_of : Road → List ℕ → ℕ
downstream_of r [] = 0
downstream_of r (s ∷ []) = between r s letter_d
downstream_of r (s ∷ t ∷ ss) = downstream_of r (t ∷ ss)

-- the cells, each between two letters
unfoldable pub cells_of : Road → List ℕ → List ℕ
cells_of r [] = []
cells_of r (s ∷ []) = []
cells_of r (s ∷ t ∷ ss) = between r s t ∷ cells_of r (t ∷ ss)

-- a word and the state that is given for it: it is the state's word, there is a cell for each two neighbouring letters, and no density is above jam
pub record Occurs (r : Road) (word : List ℕ) : Type 0 where
  pub same : word_of r (upstream_of r word) (downstream_of r word) (cells_of r word) ≡ word
  pub cells : length (cells_of r word) + 1 ≡ length word
  pub upstream : upstream_of r word ≤ r.jam
  pub downstream : downstream_of r word ≤ r.jam
  pub below : (i : ℕ) → get_or (cells_of r word) i 0 ≤ r.jam

-- "the word of some accepted state": the state given for the word has it and passes every check of the reading, and a reading of it is made and writes the word
pub record ReadOff (r : Road) (word : List ℕ) : Type 0 where
  pub own : word_of r (upstream_of r word) (downstream_of r word) (cells_of r word) ≡ word
  pub checked : ReadChecked r (cells_of r word) (upstream_of r word) (downstream_of r word) (length word) (length (cells_of r word))
  pub written : (letters next-letters modes next_modes : List ℕ) (a : StateReading)
      → Reads r (cells_of r word) (upstream_of r word) (downstream_of r word) letters next-letters modes next_modes a
      → length letters ≡ length word → length modes ≡ length (cells_of r word) → (a.answer ≡ Done tt) × (next-letters ≡ word)
