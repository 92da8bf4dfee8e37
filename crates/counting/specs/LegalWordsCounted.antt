-- What a word count counts: the legal words of n+1 letters, each once; from 1 cell on each of them is read off a state (document 01, "Seven modes").
use Rattle.std.specs.Prelude.{◌≡◌, true, List, [], ℕ, ◌+◌, ◌≤◌, ◌<◌, length, get_or}
use Rattle.road.specs.Judgement.{Accepted}
use Rattle.road.specs.declared.Road.{Road}
use Rattle.words.specs.Words.{legal}
use Rattle.counting.specs.WordCount.{all_words, picked}
use Rattle.modes.specs.ReadOff.{ReadOff}

-- the list of the legal words for n cells
abbrev pub legal_words : ℕ → List (List ℕ)
legal_words n = picked legal (all_words (n + 1))

-- a word stands at a place of a list of words
abbrev pub StandsAt : List (List ℕ) → List ℕ → ℕ → Type 0
StandsAt words word i = (i < length words) × (get_or words i [] ≡ word)

-- the number is that of the legal words: the list holds every legal word of n+1 letters, nothing else, and nothing twice
pub record LegalWordsCounted (n words : ℕ) : Type 0 where
  pub number : words ≡ length (legal_words n)
  pub every : (word : List ℕ) → length word ≡ n + 1 → legal word ≡ true → (i : ℕ) × StandsAt (legal_words n) word i
  pub only : (word : List ℕ) (i : ℕ) → StandsAt (legal_words n) word i → (length word ≡ n + 1) × (legal word ≡ true)
  pub once : (word : List ℕ) (i j : ℕ) → StandsAt (legal_words n) word i → StandsAt (legal_words n) word j → i ≡ j
  -- "From 1 cell on, every legal word is, on every accepted road, the word of some accepted state"
  pub occurs : 1 ≤ n → (word : List ℕ) → length word ≡ n + 1 → legal word ≡ true → (r : Road) → Accepted r → ReadOff r word
