-- What a candidate prediction answers.
use Rattle.refusal.specs.Answer.{Answer}
use Rattle.candidate.specs.declared.candidates.CandidateResult.{CandidateResult}

-- the numerator, or the refusal
abbrev pub CandidateAnswer : Type 0
CandidateAnswer = Answer CandidateResult
