-- The word count call: the number of legal words for n cells, up to its ceiling (document 01, "Seven modes", check 15).
use Rattle.std.specs.Prelude.{◌≡◌, List, [], ◌∷◌, ℕ, ◌≤◌, ltb}
use Rattle.road.specs.Ceilings.{count_ceiling}
use Rattle.refusal.specs.Table.{Check, check, judge, refused, Judged, unless_refused}
use Rattle.refusal.specs.Outcome.{Outcome}
use Rattle.counting.specs.WordCount.{word_count}
use Rattle.counting.specs.LegalWordsCounted.{LegalWordsCounted}
use Rattle.counting.specs.declared.counting.WordCount.{WordCount}
use Rattle.counting.specs.Answers.{CountAnswer}
use Rattle.refusal.specs.Answer.{Done, Refused}

-- 15: cells above its ceiling
abbrev pub count_check : ℕ → Check
count_check n = check (ltb count_ceiling n) 15 0

abbrev pub count_checks : ℕ → List Check
count_checks n = count_check n ∷ []

unfoldable pub count_refusal : ℕ → Outcome
count_refusal n = judge (count_checks n)

unfoldable pub count_answer : ℕ → CountAnswer
count_answer n = unless_refused (count_refusal n) (Done (record { words = word_count n })) (Refused (count_refusal n))

-- the paper's numbers of an answer: number (0 when accepted), place, the count (0 when refused)
pub record Meaning : Type 0 where
  pub number : ℕ
  pub place : ℕ
  pub words : ℕ

abbrev pub meaning : CountAnswer → Meaning
meaning (Done c) = record { number = 0; place = 0; words = c.words }
meaning (Refused f) = record { number = f.number; place = f.place; words = 0 }

unfoldable pub count_meaning : ℕ → Meaning
count_meaning n = record {
  number = (count_refusal n).number;
  place = (count_refusal n).place;
  words = unless_refused (count_refusal n) (word_count n) 0;
}

-- demand 1 of a refusal, of the one check: its place is 0, and none is refused exactly up to the ceiling
abbrev pub CountJudged : ℕ → Outcome → Type 0
CountJudged n f = Judged (count_checks n) (n ≤ count_ceiling) (λ g. g.place ≡ 0) f

-- what the call promises
pub record CountsWords (n : ℕ) (a : CountAnswer) : Type 0 where
  pub answer : a ≡ count_answer n
  pub means : meaning a ≡ count_meaning n
  pub judged : CountJudged n (refused (meaning a).number (meaning a).place)
  -- demand 2, of an accepted call
  pub counted : (c : WordCount) → a ≡ Done c → LegalWordsCounted n c.words
