-- `candidate::judged` meets its contract: a refusal of the road is the whole table's.
use Rattle.refusal.proofs.Results.{err_told, refusal_stands}
use Rattle.road.specs.Judgement.{road_checks, road_refusal}
use Rattle.candidate.specs.Candidate.{estimate_checks, candidate_refusal}
use Rattle.candidate.proofs.candidates.judged.Goals as goal

pub returns-in_err-road-clause-refusal : goal.returns-in_err-road-clause-refusal
unfolding candidate_refusal road_refusal
returns-in_err-road-clause-refusal c =
    let a = c.args in
    err_told c.in_err-road.field-0.0 c.from_residual.result c.from_residual.ensures.1
    (refusal_stands c.in_err-road.field-0.0 (road_checks a.road) (estimate_checks a.road a.mode a.left a.own a.right) c.in_err-road.ensures.refusal)
