-- The candidate prediction: what demand 1 says of it, and what an accepted one made, from its contracts.
use mathlib.Core.Path.{◌≡◌, ◌∙◌, refl, sym, ap}
use mathlib.Core.Bool.{true}
use mathlib.Core.Logic.{inr}
use Prim.Native.Nat.{ℕ}
use lib.IntN.{ℤ, pos}
use lib.Ieee.{Float, fin, binary64, of_int}
use Rattle.refusal.specs.Outcome.{Outcome as Refusal}
use Rattle.refusal.proofs.Table.{◌&◌}
use Rattle.road.specs.declared.Road.{Road}
use Rattle.floats.specs.Worth.{Worth}
use Rattle.rows.specs.Rows.{row_value}
use Rattle.candidate.specs.Candidate.{candidate_checks, candidate_refusal, candidate_answer, candidate_numerator, Meaning, meaning, candidate_meaning, CandidatePlaced, CandidateChecked, RowWhole}
use Rattle.commission.specs.Outcome.{Outcome}
use Rattle.commission.specs.CandidateCall.{EstimatePlace, CalledCandidate, candidate, welgadou_candidate, AcceptedCandidate, CandidateMade}
use Rattle.commission.specs.Table.{mode, estimates, AllNamed}
use Rattle.commission.proofs.Told.{value_of, former_of, road_named, Told, told_as}

estimate_place_lem : (r : Road) (left own right : Float) (f : Refusal) → CandidatePlaced r left own right f → EstimatePlace r left own right f
estimate_place_lem r left own right f p e = let w = p e in (w.low, w.high, w.first, w.second, w.third)

candidate_named : (r : Road) (m : ℕ) (left own right : Float) → AllNamed (candidate_checks r m left own right)
candidate_named r m left own right = road_named r (mode m & estimates r left own right & tt)

pub candidate_told : (o : Outcome) → CalledCandidate o → Told o
unfolding candidate_refusal candidate_answer candidate_meaning
candidate_told _ (candidate {r = r} {mode = m} c) = record {
  judged = told_as (estimate_place_lem r _ _ _) c.judged;
  kept = λ n. tt;
  table = λ i. record { number = (c.means i).number; place = (c.means i).place };
  named = candidate_named _ m _ _ _;
  numbers = refl;
  rise = inr (inr tt);
  made = λ z. (_, value_of _ _ (sym (ap (λ (m : Meaning). m.number) c.means) ∙ z) c.answer);
}
candidate_told _ (welgadou_candidate {r = r} {mode = m} c) = record {
  judged = told_as (estimate_place_lem r _ _ _) c.judged;
  kept = λ n. former_of _ _ n c.numerator_written;
  table = λ i. record { number = c.returned i; place = c.placed i };
  named = candidate_named _ m _ _ _;
  numbers = refl;
  rise = inr (inr tt);
  made = λ z. tt;
}

-- a candidate prediction by its contract's equation, and the input that it accepted
pub candidate_equals : (x : AcceptedCandidate) → CandidateMade x
    → (x.numerator ≡ candidate_numerator x.road x.mode x.left x.own x.right) × CandidateChecked x.road x.mode x.left x.own x.right
unfolding candidate_meaning
candidate_equals _ (candidate c e) =
    let m = ap meaning (sym e) ∙ c.means in
    let same = ap (λ (x : Meaning). x.number) m in
    (value_of _ _ (sym same) (ap (λ (x : Meaning). x.value) m), c.judged.accepted (ap (λ (x : Meaning). x.number) c.means ∙ sym same))
candidate_equals _ (welgadou_candidate c z) = (value_of _ _ (sym c.returned ∙ z) (value_of _ _ z c.numerator_written), c.judged.accepted z)

pub candidate_row : (x : AcceptedCandidate) → CandidateMade x → RowWhole x.road x.mode
candidate_row _ (candidate {p = p} c e) = c.row_whole p e
candidate_row _ (welgadou_candidate c z) = c.row_whole z

pub whole_says : (x : AcceptedCandidate) → CandidateMade x → (l o t : ℕ) → Worth x.left (pos l) → Worth x.own (pos o) → Worth x.right (pos t)
    → (x.numerator ≡ of_int binary64 (row_value x.road x.mode l o t)) × Worth x.numerator (row_value x.road x.mode l o t)
whole_says _ (candidate {p = p} c e) l o t l-is o_is t-is = let w = c.exact p e l o t l-is o_is t-is in (w.same, w.worth)
whole_says _ (welgadou_candidate c z) l o t l-is o_is t-is = let w = c.exact z l o t l-is o_is t-is in (w.same, w.worth)

pub plain_says : (x : AcceptedCandidate) → CandidateMade x → (e : ℤ) → x.numerator ≡ fin true 0 e → ⊥
plain_says _ (candidate {p = p} c e) = c.plain p e
plain_says _ (welgadou_candidate c z) = c.plain z
