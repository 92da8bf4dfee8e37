-- What the place of 12 means: the face there offends, and no lower one does.
use Rattle.std.specs.Prelude.{◌≡◌, Bool, true, false, List, [], ◌∷◌, ℕ, ◌+◌, ◌<◌, length, get_or}
use Rattle.road.specs.declared.Road.{Road}
use Rattle.refusal.specs.Outcome.{Outcome}
use Rattle.checks.specs.Places.{Placed}
use Rattle.flux.specs.Face.{letter_d}
use Rattle.words.specs.Words.{offends}

-- face i of a word offends, its first face standing after a given letter
abbrev pub offends_at : ℕ → List ℕ → ℕ → Bool
offends_at before word i = offends (get_or (before ∷ word) i 0) (get_or word i 0)

-- a place that 12 reports: n+1 where the length is another, whatever the letters; otherwise a face that offends, and no lower one does
pub record WordPlaced (n : ℕ) (word : List ℕ) (place : ℕ) : Type 0 where
  pub other_length : (length word ≡ n + 1 → ⊥) → place ≡ n + 1
  pub face : length word ≡ n + 1 → place < n + 1
  pub offends_there : length word ≡ n + 1 → offends_at letter_d word place ≡ true
  pub earlier : length word ≡ n + 1 → (i : ℕ) → i < place → offends_at letter_d word i ≡ false

-- the places of a call with one end pair and a word: 9 to 11, and 12
pub record PairWordPlaced (r : Road) (cells : List ℕ) (up down : ℕ) (word : List ℕ) (f : Outcome) : Type 0 where
  pub values : Placed r cells (up ∷ []) (down ∷ []) f
  pub face : f.number ≡ 12 → WordPlaced (length cells) word f.place
