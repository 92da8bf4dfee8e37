-- The word count among the public calls: the numbers of its checks, what it did with any input, and what it made of an accepted one.
use Rattle.std.specs.Prelude.{◌≡◌, List, [], ◌∷◌, ℕ, ◌≤◌}
use Rattle.refusal.specs.Table.{refused}
use Rattle.refusal.specs.Outcome.{Outcome as Refusal}
use Rattle.road.specs.Ceilings.{count_ceiling}
use Rattle.counting.specs.declared.counting.WordCount.{WordCount}
use Rattle.counting.specs.Answers.{CountAnswer}
use Rattle.refusal.specs.Answer.{Done}
use Rattle.counting.specs.Count.{count_checks, meaning, CountsWords}
use Rattle.welgadou.specs.Level2.{WordsCounted}
use Rattle.commission.specs.Outcome.{Outcome}
use Rattle.commission.specs.Places.{NoPlace}

-- "count 15"
abbrev pub count_numbers : List ℕ
count_numbers = 15 ∷ []

-- what came of it: f the refusal that came back
abbrev pub count_outcome : ℕ → Refusal → Type 0 → Type 0 → Outcome
count_outcome n f Kept Made = record {
  checks = count_checks n;
  numbers = count_numbers;
  Checked = n ≤ count_ceiling;
  Placed = NoPlace;
  refusal = f;
  Kept = Kept;
  Made = Made;
}

pub data CalledCount : Outcome → Type 1 where
  count : {n : ℕ} {a : CountAnswer}
      → CountsWords n a → CalledCount (count_outcome n (refused (meaning a).number (meaning a).place) (Unit {0}) ((c : WordCount) × (a ≡ Done c)))
  welgadou_count : {n words words-next place number : ℕ}
      → WordsCounted n words words-next place number → CalledCount (count_outcome n (refused number place) (words-next ≡ words) (Unit {0}))

-- what an accepted call was given and what it made
pub record AcceptedCount : Type 0 where
  pub cells : ℕ
  pub words : ℕ

pub data CountMade : AcceptedCount → Type 0 where
  count : {n : ℕ} {a : CountAnswer} {c : WordCount} → CountsWords n a → a ≡ Done c → CountMade (record { cells = n; words = c.words })
  welgadou_count : {n words words-next place number : ℕ}
      → WordsCounted n words words-next place number → number ≡ 0 → CountMade (record { cells = n; words = words-next })
