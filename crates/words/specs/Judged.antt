-- The word that a judgement hands on.
use Rattle.std.specs.Prelude.{◌≡◌, List, ℕ}
use Rattle.road.specs.declared.Road.{Road}
use Rattle.checks.specs.Judged.{IsState}
use Rattle.words.specs.declared.accepted.AcceptedWord.{AcceptedWord}

-- it is this word, of this road, these cells and this end pair
pub record IsWord (w : AcceptedWord) (r : Road) (xs : List ℕ) (a b : ℕ) (letters : List ℕ) : Type 0 where
  pub state : IsState w.state r xs a b
  pub word : w.word.now ≡ letters
