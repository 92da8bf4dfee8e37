-- What the ranking answers.
use Rattle.refusal.specs.Answer.{Answer}

-- that the cells were ranked, or the refusal
abbrev pub NearestAnswer : Type 0
NearestAnswer = Answer (Unit {0})
