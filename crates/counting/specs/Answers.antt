-- What a word count answers.
use Rattle.refusal.specs.Answer.{Answer}
use Rattle.counting.specs.declared.counting.WordCount.{WordCount}

-- the count, or the refusal
abbrev pub CountAnswer : Type 0
CountAnswer = Answer WordCount
