-- The station's answers, accepted and refused, and demand 1.
use mathlib.Core.Path.{◌≡◌, ◌∙◌, refl, sym, ap, subst}
use mathlib.Core.Bool.{Bool, false, true≢false}
use mathlib.Core.List.{List, [], ◌∷◌, ◌++◌}
use Prim.Native.Nat.{ℕ, zero, suc, ◌^◌, ◌≤◌}
use native.Mathlib.Nat.{le_trans, zero-lt-suc}
use native.Mathlib.Omega.{arith}
use lib.Dec.{lit≤}
use lib.Ieee.{Float, inf, binary64, prec, lt, eq, ne}
use Rattle.std.proofs.Common.{Result, Ok, Err}
use Rattle.std.specs.Prelude.{IfOk}
use Rattle.choice.specs.Choice.{or}
use Rattle.choice.proofs.Choice.{or_left, or_right, neither}
use Rattle.floats.specs.Worth.{NotBelow0, FiniteFrom}
use Rattle.floats.proofs.Given.{not_below_of, given_known, given_low, given_finite, above_of, above_given, above_other}
use Rattle.floats.proofs.Slower.{slower_of, slower_passes}
use Rattle.floats.proofs.Between.{from_up_to}
use Rattle.road.specs.Judgement.{road_checks, Accepted}
use Rattle.road.specs.declared.Road.{Road}
use Rattle.refusal.specs.Outcome.{Outcome}
use Rattle.refusal.specs.Table.{Check, check, judge}
use Rattle.refusal.proofs.Table.{◌&◌, no_place, none_holds, check_returned, failing_left_out, first_part_stands}
use Rattle.road.proofs.Acceptance.{accepted_by, road_passes}
use Rattle.refusal.proofs.Calls.{Call, refuses, accepts}
use Rattle.candidate.specs.Candidate.{bad_estimate}
use Rattle.candidate.proofs.CandidateAnswers.{finite_of, of_finite}
use Rattle.station.specs.declared.stations.StationReading.{StationReading}
use Rattle.station.specs.declared.stations.StationReading.TheVariants.{Density, FlowAndSpeed, Speed}
use Rattle.station.specs.declared.stations.Estimate.{Estimate}
use Rattle.station.specs.Answers.{StationAnswer}
use Rattle.refusal.specs.Answer.{Done, Refused, answer_of, judged_of, outcome_of}
use Rattle.refusal.specs.declared.Refusal.{Refusal}
use Rattle.refusal.proofs.Results.{numbered}
use Rattle.station.specs.Station as S
use Rattle.station.proofs.LoneSpeed.{speed_range}

-- 18 is the test of an estimate, kind by kind: a definition that spares one kind fails here
pub bad_result_lem : (r : Road) (x : StationReading) → S.bad_result r x ≡ bad_estimate r.jam (S.estimate_of r x)
unfolding S.estimate_of
bad_result_lem r (Density d) = refl
bad_result_lem r (FlowAndSpeed f s) = refl
bad_result_lem r (Speed s) = refl

-- 16 by meaning: a number that the tests let through is finite and not below 0, and the other way round
number_given : (x : Float) → S.bad_number x ≡ false → NotBelow0 x
unfolding S.bad_number
number_given x e =
    let rest = or_right (ne x x) (or (lt x S.zero) (eq x (inf false))) e in
    not_below_of binary64 x (or_left (ne x x) (or (lt x S.zero) (eq x (inf false))) e) (or_left (lt x S.zero) (eq x (inf false)) rest) (or_right (lt x S.zero) (eq x (inf false)) rest)

given_number : {x : Float} → NotBelow0 x → S.bad_number x ≡ false
unfolding S.bad_number
given_number {x} g =
    neither (ne x x) (or (lt x S.zero) (eq x (inf false))) (given_known g) (neither (lt x S.zero) (eq x (inf false)) (given_low binary64 g) (given_finite g))

given_of : (x : StationReading) → S.bad_given x ≡ false → S.Given x
unfolding S.bad_given
given_of (Density d) e = number_given d e
given_of (FlowAndSpeed f s) e =
    let speed = or_right (S.bad_number f) (or (S.bad_number s) (eq s S.zero)) e in (
      number_given f (or_left (S.bad_number f) (or (S.bad_number s) (eq s S.zero)) e),
      above_of binary64 (number_given s (or_left (S.bad_number s) (eq s S.zero) speed)) (or_right (S.bad_number s) (eq s S.zero) speed),
    )
given_of (Speed s) e = number_given s e

of_given : (x : StationReading) → S.Given x → S.bad_given x ≡ false
unfolding S.bad_given
of_given (Density d) g = given_number g
of_given (FlowAndSpeed f s) (g, h) =
    neither (S.bad_number f) (or (S.bad_number s) (eq s S.zero)) (given_number g) (neither (S.bad_number s) (eq s S.zero) (given_number (above_given h)) (above_other binary64 h))
of_given (Speed s) g = given_number g

-- 17 by meaning: a lone speed whose product with D is not at or above p has a product below it, and the other way round
slow_of : (r : Road) → Accepted r → (x : StationReading) → S.Given x → S.too_fast r x ≡ false → S.Slow r x
unfolding S.too_fast
slow_of r ok (Density d) g e = tt
slow_of r ok (FlowAndSpeed f s) g e = tt
slow_of r ok (Speed s) g e =
    let d = ok.divisor_high in
    let p = ok.free_high in
    let least : 4096 ≤ 2 ^ prec binary64 = lit≤ tt in
    slower_of binary64 r.free (le_trans (le_trans p d) least) r.divisor (le_trans d least) g e

of_slow : (r : Road) → Accepted r → (x : StationReading) → S.Slow r x → S.too_fast r x ≡ false
unfolding S.too_fast
of_slow r ok (Density d) slow = refl
of_slow r ok (FlowAndSpeed f s) slow = refl
of_slow r ok (Speed s) slow =
    let least : 4096 ≤ 2 ^ prec binary64 = lit≤ tt in
    slower_passes binary64 r.free (le_trans (le_trans ok.free_high ok.divisor_high) least) slow

-- ---- a lone speed: of 16 to 18 it meets 16 and 17 alone
lone_range : {r : Road} (x : StationReading) → S.StationChecked r x → (s : Float) → x ≡ Speed s → FiniteFrom r.critical r.jam (S.estimate_of r x)
unfolding S.estimate_of
lone_range {r} x c s q =
    subst (λ (y : StationReading). S.StationChecked r y → FiniteFrom r.critical r.jam (S.estimate_of r y)) (sym q)
    (λ (d : S.StationChecked r (Speed s)). speed_range d.accepted s d.slow) c

-- the checks before 18
abbrev first_checks : Road → StationReading → List Check
first_checks r x = road_checks r ++ (S.given_check x ∷ S.fast_check r x ∷ [])

-- where none of them holds of a lone speed, 18 does not
result_passes : (r : Road) (s : Float) → (judge (first_checks r (Speed s))).number ≡ 0 → S.bad_result r (Speed s) ≡ false
unfolding S.estimate_of
result_passes r s e =
    let no = none_holds (first_checks r (Speed s)) tt e in
    let ok = accepted_by r (no 1) (no 2) (no 3) (no 4) in
    of_finite r ok (S.speed_density r s) (from_up_to (speed_range ok s (slow_of r ok (Speed s) (given_of (Speed s) (no 16)) (no 17))))

-- so it may be left out
lone_judged : (r : Road) (s : Float) → S.station_refusal r (Speed s) ≡ judge (first_checks r (Speed s))
unfolding S.station_refusal
lone_judged r s = by_number (judge (first_checks r (Speed s))).number refl
  where
    by_number : (n : ℕ) → (judge (first_checks r (Speed s))).number ≡ n → judge (S.station_checks r (Speed s)) ≡ judge (first_checks r (Speed s))
    by_number zero e =
        ap (λ (b : Bool). judge (first_checks r (Speed s) ++ (check b 18 0 ∷ []))) (result_passes r s e) ∙ failing_left_out (first_checks r (Speed s)) [] 18 0
    by_number (suc n) e = first_part_stands (first_checks r (Speed s)) (S.result_check r (Speed s) ∷ []) (rw e (zero-lt-suc n))

lone_never_18 : (r : Road) (x : StationReading) (s : Float) → x ≡ Speed s → (S.station_refusal r x).number ≡ 18 → ⊥
lone_never_18 r x s q e =
    true≢false (sym (check_returned (first_checks r (Speed s)) tt 18 (zero-lt-suc 17) (ap (λ (f : Outcome). f.number) (sym (ap (S.station_refusal r) q ∙ lone_judged r s)) ∙ e)).0)

-- what an accepted answer carries is what it says
same_estimate : {d e : Estimate} → ◌≡◌ {A = StationAnswer} (Done d) (Done e) → d.density ≡ e.density
same_estimate q = ap (λ (x : Estimate). x.density) (cc q)

module _ (r : Road) (x : StationReading) where
  -- the station's table refuses nothing exactly of a checked input
  pub station_call : Call (S.station_checks r x) (S.StationChecked r x) (λ g. g.place ≡ 0) (S.station_refusal r x)
  unfolding S.station_refusal
  station_call = record {
    comes_to = refl;
    distinct = tt;
    placed = λ at. no_place (S.station_checks r x) tt;
    clear_checked = λ no.
        let ok = accepted_by r (no 1) (no 2) (no 3) (no 4) in
        let given = given_of x (no 16) in
        record {
          accepted = ok;
          given = given;
          slow = slow_of r ok x given (no 17);
          finite = finite_of r ok (S.estimate_of r x) (sym (bad_result_lem r x) ∙ no 18);
        };
    passes = λ c.
        road_passes r c.accepted (of_given x c.given & of_slow r c.accepted x c.slow & (bad_result_lem r x ∙ of_finite r c.accepted (S.estimate_of r x) c.finite) & tt);
  }

  -- refused: the number and place of the table
  pub station_refused : (f : Outcome) → f ≡ S.station_refusal r x → (f.number ≡ 0 → ⊥) → S.Stations r x (Refused f)
  unfolding S.station_answer S.station_meaning
  station_refused f e n =
      let k = refuses station_call e n in
      record {
        answer = rw k.no (ap Refused e);
        means = rw k.no (ap (λ (g : Outcome). S.meaning (Refused g)) e);
        judged = k.judged;
        feeds = λ d q. absurd (true≢false (cc q));
        lone_speed = λ s given d q. absurd (true≢false (cc q));
        never_18 = λ s given q. lone_never_18 r x s given (ap (λ (g : Outcome). g.number) (sym e) ∙ q);
      }

  -- accepted: the estimate
  pub station_done : (S.station_refusal r x).number ≡ 0 → (density : Float) → density ≡ S.estimate_of r x
      → S.Stations r x (Done (record { density = density }))
  unfolding S.station_answer S.station_meaning
  station_done e density is =
      let k = accepts station_call e in
      record {
        answer = rw k.yes (λ i. Done (record { density = is i }));
        means = rw k.yes (λ i. record { number = (sym k.nothing i).number; place = (sym k.nothing i).place; density = is i });
        judged = k.judged;
        feeds = λ d q. rw (sym (same_estimate q) ∙ is) k.checked.finite;
        lone_speed = λ s given d q. rw (sym (same_estimate q) ∙ is) (lone_range x k.checked s given);
        never_18 = λ s given q. omega arith;
      }

  -- what a reading that was judged answers
  pub station_answers : (result : Result Estimate Refusal) → judged_of result ≡ S.station_refusal r x → IfOk result (λ e. e.density ≡ S.estimate_of r x)
      → S.Stations r x (answer_of result)
  station_answers (Ok e) is density = station_done (sym (ap (λ (o : Outcome). o.number) is)) e.density density
  station_answers (Err f) is density = station_refused (outcome_of f) is (λ z. let n = numbered f in omega arith)
