-- What the row prediction answers.
use Rattle.refusal.specs.Answer.{Answer}

-- whether the rows were written
abbrev pub PredictAnswer : Type 0
PredictAnswer = Answer (Unit {0})
