-- The candidate's answers, accepted and refused; the numerator is never −0.0, and on whole estimates it is the whole row's value.
use Rattle.std.proofs.Common.{◌≡◌, ℕ, ◌+◌, ◌*◌, ◌^◌, ◌<◌, ◌≤◌, Bool, true, false, [], ◌∷◌, ◌++◌, ℤ, pos, nat_abs, sym, refl, ap, ◌∙◌, subst, true≢false, le_trans, mul-le-mul, arith, lit≤, le-ltb, lt-ltb, ne_eqb, Result}
use Rattle.std.specs.Prelude.{IsErrAnd}
use Rattle.std.proofs.lemmas.Result.{err_from_is_err_and}
use lib.Ieee.{Float, fin, binary64, prec, ne, lt, of_int, of_bits}
use lib.Ieee.Fits.{add-fits}
use Rattle.choice.specs.Choice.{pick, or}
use Rattle.road.specs.Ceilings.{divisor_ceiling}
use Rattle.refusal.specs.Table.{check, judge}
use Rattle.road.specs.Judgement.{Accepted, outside, road_checks}
use Rattle.road.specs.declared.Road.{Road}
use Rattle.refusal.specs.Outcome.{Outcome}
use Rattle.refusal.proofs.Table.{◌&◌}
use Rattle.road.proofs.Acceptance.{accepted_by, road_passes}
use Rattle.choice.proofs.Choice.{or_left, or_right, neither}
use Rattle.road.proofs.Ranges.{from_low, to_high, inside}
use Rattle.refusal.proofs.Calls.{Call, checked, refuses, accepts}
use Rattle.floats.specs.Worth.{Worth, FiniteUpTo, Passes}
use Rattle.floats.proofs.Round.{of_int_worth}
use Rattle.floats.proofs.Row.{row_exact}
use Rattle.floats.proofs.Within.{within, finite_of_passes, passes_of_finite}
use Rattle.floats.proofs.Sum.{add_plain}
use Rattle.candidate.specs.declared.candidates.CandidateResult.{CandidateResult}
use Rattle.candidate.specs.Answers.{CandidateAnswer}
use Rattle.refusal.specs.Answer.{Done, Refused, answer_of, outcome_of}
use Rattle.refusal.specs.declared.Refusal.{Refusal}
use Rattle.refusal.proofs.Results.{numbered}
use Rattle.rows.specs.Rows.{row_value}
use Rattle.candidate.specs.Candidate.{EstimatePlaced}
use Rattle.rows.specs.Coefficients.{left_coefficient, own_coefficient, right_coefficient, constant_of}
use Rattle.candidate.specs.Candidate as C
use Rattle.rows.proofs.Sizes.{largest, row_small}
use Rattle.rows.proofs.Coefficients.{left_small, own_small, right_small, constant_small, row_split}

-- what the three tests of an estimate leave, and what they mean on an accepted road
passes_of : (j : ℕ) (x : Float) → C.bad_estimate j x ≡ false → Passes binary64 j x
passes_of j x e =
    let low = lt x (of_bits binary64 0) in
    let high = lt (of_int binary64 (pos j)) x in
    let rest = or_right (ne x x) (or low high) e in
    record { known = or_left (ne x x) (or low high) e; low = or_left low high rest; high = or_right low high rest }

of_passes : (j : ℕ) (x : Float) → Passes binary64 j x → C.bad_estimate j x ≡ false
of_passes j x p =
    neither (ne x x) (or (lt x (of_bits binary64 0)) (lt (of_int binary64 (pos j)) x)) p.known
    (neither (lt x (of_bits binary64 0)) (lt (of_int binary64 (pos j)) x) p.low p.high)

module _ (r : Road) (ok : Accepted r) (x : Float) where
  exact_jam : r.jam ≤ 2 ^ prec binary64
  exact_jam = le_trans ok.jam_high (lit≤ tt)

  pub finite_of : C.bad_estimate r.jam x ≡ false → FiniteUpTo r.jam x
  finite_of e = finite_of_passes exact_jam (passes_of r.jam x e)

  pub of_finite : FiniteUpTo r.jam x → C.bad_estimate r.jam x ≡ false
  of_finite h = of_passes r.jam x (passes_of_finite exact_jam h)

  -- a whole estimate of an accepted call is a natural up to jam
  pub whole_estimate : (z : ℤ) → FiniteUpTo r.jam x → Worth x z → (n : ℕ) × (z ≡ pos n) × (n ≤ r.jam)
  whole_estimate z h w = within {f = binary64} exact_jam w (passes_of_finite exact_jam h)

  natural : (n : ℕ) → FiniteUpTo r.jam x → Worth x (pos n) → n ≤ r.jam
  natural n h w =
      let (k, e, low) = whole_estimate (pos n) h w in
      let same : n ≡ k = ap nat_abs e in
      omega arith

-- the place of 14
estimate_placed : (a b c : Bool) → or a (or b c) ≡ true → EstimatePlaced a b c (pick a 1 (pick b 2 3))
estimate_placed true b c e =
    record { low = lit≤ tt; high = lit≤ tt; first = λ q. refl; second = λ q. absurd (omega arith); third = λ q. absurd (omega arith) }
estimate_placed false true c e =
    record { low = lit≤ tt; high = lit≤ tt; first = λ q. absurd (omega arith); second = λ q. (refl, refl); third = λ q. absurd (omega arith) }
estimate_placed false false c e =
    record { low = lit≤ tt; high = lit≤ tt; first = λ q. absurd (omega arith); second = λ q. absurd (omega arith); third = λ q. (refl, refl, e) }

module _ (r : Road) (mode : ℕ) (left own right : Float) where
  -- the candidate's table refuses nothing exactly of a checked input
  pub candidate_call : Call (C.candidate_checks r mode left own right) (C.CandidateChecked r mode left own right) (C.CandidatePlaced r left own right) (C.candidate_refusal r mode left own right)
  unfolding C.candidate_refusal
  candidate_call =
      let a = C.bad_estimate r.jam left in
      let b = C.bad_estimate r.jam own in
      let c = C.bad_estimate r.jam right in
      record {
        comes_to = refl;
        distinct = tt;
        placed = λ at e. let (holds, same) = at 14 tt e in subst (EstimatePlaced a b c) same (estimate_placed a b c holds);
        clear_checked = λ no.
            let ok = accepted_by r (no 1) (no 2) (no 3) (no 4) in
            let rest = or_right a (or b c) (no 14) in
            record {
              accepted = ok;
              mode_low = from_low 1 7 mode (no 13);
              mode_high = to_high 1 7 mode (no 13);
              left_finite = finite_of r ok left (or_left a (or b c) (no 14));
              own_finite = finite_of r ok own (or_left b c rest);
              right_finite = finite_of r ok right (or_right b c rest);
            };
        passes = λ k.
            let ok = k.accepted in
            let rest = neither b c (of_finite r ok own k.own_finite) (of_finite r ok right k.right_finite) in
            road_passes r ok (inside 1 7 mode k.mode_low k.mode_high & neither a (or b c) (of_finite r ok left k.left_finite) rest & tt);
      }

  -- each number of the row is exactly the whole one
  row_exactly : C.CandidateChecked r mode left own right → C.RowWhole r mode
  unfolding C.row_for
  row_exactly c =
      let low = c.mode_low in
      let high = c.mode_high in
      let ok = c.accepted in
      record {
        left = of_int_worth binary64 (left_coefficient r mode) (le_trans (left_small mode low high r ok) (lit≤ tt));
        own = of_int_worth binary64 (own_coefficient r mode) (le_trans (own_small mode low high r ok) (lit≤ tt));
        right = of_int_worth binary64 (right_coefficient r mode) (le_trans (right_small mode low high r ok) (lit≤ tt));
        constant = of_int_worth binary64 (constant_of r mode) (le_trans (constant_small mode low high r ok) (lit≤ tt));
      }

  -- the numerator is never −0.0: the last addition is that of a whole constant
  never_minus_zero : C.CandidateChecked r mode left own right → (e : ℤ) → C.candidate_numerator r mode left own right ≡ fin true 0 e → ⊥
  unfolding C.row_for
  never_minus_zero c =
      add_plain binary64 _ (constant_of r mode) (add-fits binary64 _ _)
      (le_trans (constant_small mode c.mode_low c.mode_high r c.accepted) (lit≤ tt))

  -- on whole estimates the numerator is the row's value, exactly
  module _ (c : C.CandidateChecked r mode left own right) (l o t : ℕ) (l-is : Worth left (pos l)) (o_is : Worth own (pos o)) (t-is : Worth right (pos t)) where
    total : (k₁ k₂ k₃ k₀ : ℤ) → nat_abs k₁ ≤ divisor_ceiling → nat_abs k₂ ≤ 3 * divisor_ceiling → nat_abs k₃ ≤ divisor_ceiling → nat_abs k₀ ≤ 3 * largest
        → nat_abs (pos l) * nat_abs k₁ + nat_abs (pos o) * nat_abs k₂ + nat_abs (pos t) * nat_abs k₃ + nat_abs k₀ ≤ 2 ^ prec binary64
    total k₁ k₂ k₃ k₀ b₁ b₂ b₃ b₀ =
        let high = c.accepted.jam_high in
        let p₁ = mul-le-mul (le_trans (natural r c.accepted left l c.left_finite l-is) high) b₁ in
        let p₂ = mul-le-mul (le_trans (natural r c.accepted own o c.own_finite o_is) high) b₂ in
        let p₃ = mul-le-mul (le_trans (natural r c.accepted right t c.right_finite t-is) high) b₃ in
        omega arith

    same_row : C.candidate_numerator r mode left own right ≡ of_int binary64 (row_value r mode l o t)
    unfolding C.row_for
    same_row =
        let ok = c.accepted in
        let b₁ = left_small mode c.mode_low c.mode_high r ok in
        let b₂ = own_small mode c.mode_low c.mode_high r ok in
        let b₃ = right_small mode c.mode_low c.mode_high r ok in
        let b₀ = constant_small mode c.mode_low c.mode_high r ok in
        row_exact binary64 (left_coefficient r mode) (own_coefficient r mode) (right_coefficient r mode) (constant_of r mode)
        l-is o_is t-is (le_trans b₁ (lit≤ tt)) (le_trans b₂ (lit≤ tt)) (le_trans b₃ (lit≤ tt))
        (total (left_coefficient r mode) (own_coefficient r mode) (right_coefficient r mode) (constant_of r mode) b₁ b₂ b₃ b₀)
        ∙ ap (of_int binary64) (sym (row_split r ok mode c.mode_low c.mode_high l o t
        (natural r ok left l c.left_finite l-is) (natural r ok own o c.own_finite o_is) (natural r ok right t c.right_finite t-is)))

    pub whole_row : C.Whole (C.candidate_numerator r mode left own right) (row_value r mode l o t)
    whole_row = record {
      same = same_row;
      worth = rw same_row (of_int_worth binary64 (row_value r mode l o t) (le_trans small (lit≤ tt)));
    }
      where
        small : nat_abs (row_value r mode l o t) ≤ 8 * largest
        small =
            let ok = c.accepted in
            row_small r ok l o t
            (natural r ok left l c.left_finite l-is) (natural r ok own o c.own_finite o_is) (natural r ok right t c.right_finite t-is)
            mode c.mode_low c.mode_high

-- what an accepted answer carries is what it says
same_result : {p q : CandidateResult} → ◌≡◌ {A = CandidateAnswer} (Done p) (Done q) → p ≡ q
same_result e = cc

same_numerator : {x : Float} {p : CandidateResult} → ◌≡◌ {A = CandidateAnswer} (Done (record { numerator = x })) (Done p) → x ≡ p.numerator
same_numerator e = ap (λ (s : CandidateResult). s.numerator) (same_result e)

module _ (r : Road) (mode : ℕ) (left own right : Float) where
  -- refused: the number and place of the table
  pub candidate_refused : (f : Outcome) → f ≡ C.candidate_refusal r mode left own right → (f.number ≡ 0 → ⊥)
      → C.Candidates r mode left own right (Refused f)
  unfolding C.candidate_answer C.candidate_meaning
  candidate_refused f e n =
      let k = refuses (candidate_call r mode left own right) e n in
      record {
        answer = rw k.no (ap Refused e);
        means = rw k.no (ap (λ (g : Outcome). C.meaning (Refused g)) e);
        judged = k.judged;
        row_whole = λ p q. absurd (true≢false (cc q));
        exact = λ p q. absurd (true≢false (cc q));
        plain = λ p q. absurd (true≢false (cc q));
      }

  -- accepted: the row applied
  pub candidate_done : (C.candidate_refusal r mode left own right).number ≡ 0 → (x : Float) → x ≡ C.candidate_numerator r mode left own right
      → C.Candidates r mode left own right (Done (record { numerator = x }))
  unfolding C.candidate_answer C.candidate_meaning
  candidate_done e x is =
      let k = accepts (candidate_call r mode left own right) e in
      record {
        answer = rw k.yes (λ i. Done (record { numerator = is i }));
        means = rw k.yes (λ i. record { number = (sym k.nothing i).number; place = (sym k.nothing i).place; value = is i });
        judged = k.judged;
        row_whole = λ p q. row_exactly r mode left own right k.checked;
        exact = λ p q l o t l-is o_is t-is. rw (sym (same_numerator q) ∙ is) (whole_row r mode left own right k.checked l o t l-is o_is t-is);
        plain = λ p q. rw (sym (same_numerator q) ∙ is) (never_minus_zero r mode left own right k.checked);
      }

  -- what the judgement told
  pub told : (f : Refusal) → outcome_of f ≡ C.candidate_refusal r mode left own right → (result : Result CandidateResult Refusal) → IsErrAnd result (λ g. g ≡ f)
      → C.Candidates r mode left own right (answer_of result)
  told f e result is_err =
      let (g, is, same) = err_from_is_err_and result is_err in
      rw (is, same) (candidate_refused (outcome_of f) e (λ z. let n = numbered f in omega arith))

-- a number above 7 is no mode, whichever it is: what is promised of one is promised of any other
module _ (r : Road) (mode other : ℕ) (left own right : Float) (above : 7 < mode) (other-above : 7 < other) where
  no_mode_refused : (C.candidate_refusal r mode left own right).number ≡ 0 → ⊥
  no_mode_refused e = let k = checked (candidate_call r mode left own right) e in omega arith

  same_refusal : C.candidate_refusal r other left own right ≡ C.candidate_refusal r mode left own right
  unfolding C.candidate_refusal
  same_refusal = ap (λ (b : Bool). judge (road_checks r ++ (check b 13 0 ∷ C.estimates_check r left own right ∷ []))) (beyond other other-above ∙ sym (beyond mode above))
    where
      beyond : (m : ℕ) → 7 < m → outside 1 7 m ≡ true
      beyond m h = rw (le-ltb m 1 (omega arith), lt-ltb 7 m h)

  pub no_mode_alike : {a : CandidateAnswer} → C.Candidates r other left own right a → C.Candidates r mode left own right a
  unfolding C.candidate_answer
  no_mode_alike {a} c =
      let f = C.candidate_refusal r mode left own right in
      let is : a ≡ Refused f = c.answer ∙ rw (same_refusal, ne_eqb f.number 0 no_mode_refused) refl in
      subst (C.Candidates r mode left own right) (sym is) (candidate_refused r mode left own right f refl no_mode_refused)
