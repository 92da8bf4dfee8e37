-- `candidate::candidate` meets its contract: refused, or the mode's row applied.
use Rattle.std.proofs.Common.{◌∙◌, sym, ap}
use Rattle.refusal.specs.Outcome.{Outcome}
use Rattle.candidate.specs.declared.candidates.CandidateRow.{CandidateRow}
use Rattle.candidate.specs.Candidate.{applied}
use Rattle.candidate.proofs.CandidateAnswers.{told, candidate_done}
use Rattle.candidate.proofs.candidates.candidate.Goals as goal

pub returns-in_err-row : goal.returns-in_err-row
returns-in_err-row c =
    let a = c.args in
    told a.road a.mode a.left a.own a.right c.in_err-row.field-0.0 c.in_err-row.ensures.refusal c.from_residual.result c.from_residual.ensures.1

pub returns : goal.returns
returns c =
    let a = c.args in
    candidate_done a.road a.mode a.left a.own a.right (sym (ap (λ (o : Outcome). o.number) c.in_ok-row.ensures.refusal)) c.applied.result
    (c.applied.ensures ∙ ap (λ (row : CandidateRow). applied row a.left a.own a.right) c.in_ok-row.ensures.row)
