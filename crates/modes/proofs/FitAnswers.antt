-- The fit test's judgement and its answers: which inputs no check refuses, what is reported of them, and what of the others.
use mathlib.Core.Path.{◌≡◌, ◌∙◌, refl, sym, ap, subst}
use mathlib.Core.Bool.{true, false, true≢false}
use mathlib.Core.List.{List, []}
use Prim.Native.Nat.{ℕ, ◌+◌}
use lib.ListN.{length}
use Rattle.road.specs.declared.Road.{Road}
use Rattle.refusal.specs.Outcome.{Outcome}
use Rattle.refusal.proofs.Calls.{Call, accepts_checked, refuses, accepts}
use Rattle.checks.proofs.State.{state_checked, without_outputs}
use Rattle.scheme.specs.Word.{word_of}
use Rattle.modes.specs.Judging.{fit_checks, fit_refusal}
use Rattle.words.specs.Places.{PairWordPlaced}
use Rattle.modes.specs.Fit.{first_misfit, all_letters_hold, misfit_face, fit_answer, meaning, fit_meaning, FitChecked, Compared, FitState, Fits, AnswersFit}
use Rattle.modes.specs.Answers.{FitResult, FitAnswer, fit_of}
use Rattle.refusal.specs.Answer.{Done, Refused, outcome_of}
use Rattle.refusal.specs.Table.{passed}
use Rattle.refusal.specs.declared.Refusal.{Refusal}
use Rattle.refusal.proofs.Results.{numbered}
use Rattle.words.specs.Judged.{IsWord}
use Rattle.words.specs.Judging.{pair_word_checks, state_word_refusal}
use Rattle.words.specs.declared.accepted.AcceptedWord.{AcceptedWord}
use Rattle.std.specs.Prelude.{IsErrAnd, Option, Result}
use Rattle.std.proofs.lemmas.Result.{err_from_is_err_and}
use native.Mathlib.Omega.{arith}
use Rattle.words.proofs.WordCheck.{word_long, word_legal, state_word_passes, pair_word_placed}
use Rattle.modes.proofs.Misfits.{own_long, same_word, other_word}
use Rattle.modes.proofs.Fitness.{fit_state}

-- what an accepted answer carries is what it says
same_result : {f g : FitResult} → ◌≡◌ {A = FitAnswer} (Done f) (Done g) → f ≡ g
same_result e = cc

module _ (r : Road) (cells : List ℕ) (up down : ℕ) (word : List ℕ) where
  -- the fit test's table refuses nothing exactly of a checked input
  pub fit_call : Call (fit_checks r cells up down word) (FitChecked r cells up down word) (PairWordPlaced r cells up down word) (fit_refusal r cells up down word)
  unfolding fit_refusal
  fit_call = record {
    comes_to = refl;
    distinct = tt;
    placed = λ at. pair_word_placed r cells up down word _ (at 9 tt) (at 10 tt) (at 11 tt) (at 12 tt);
    clear_checked = λ no. record {
      state = state_checked r cells up down (no 1) (no 2) (no 3) (no 4) (no 5) (no 9) (no 10) (no 11);
      word_long = word_long (length cells) word (no 12);
      word_legal = word_legal (length cells) word (no 12);
    };
    passes = λ c. state_word_passes r cells up down word c.state c.word_long c.word_legal [] tt;
  }

  -- the first misfit as it is reported: every face holds, or one does not
  module _ (k : ℕ) (found : k ≡ first_misfit (word_of r up down cells) word) where
    pub all_fit : length word ≡ length cells + 1 → k ≡ length cells + 1 → Compared r cells up down word (record { holds = true; face = 0 })
    unfolding all_letters_hold misfit_face
    all_fit long e =
        let own = own_long r cells up down in
        let holds : all_letters_hold r cells up down word ≡ true = same_word (word_of r up down cells) word (own ∙ sym long) (sym found ∙ e ∙ sym own) in
        record { holds = sym holds; face = rw holds refl }

    pub one_misfit : (k ≡ length cells + 1 → ⊥) → Compared r cells up down word (record { holds = false; face = k })
    unfolding all_letters_hold misfit_face
    one_misfit n =
        let holds : all_letters_hold r cells up down word ≡ false = other_word (word_of r up down cells) word (λ e. n (found ∙ e ∙ own_long r cells up down)) in
        record { holds = sym holds; face = rw holds found }

  -- refused: the number and place of the table
  pub refused : (f : Outcome) → f ≡ fit_refusal r cells up down word → (f.number ≡ 0 → ⊥) → Fits r cells up down word (Refused f)
  unfolding fit_answer fit_meaning
  refused f e n =
      let k = refuses fit_call e n in
      record {
        answer = rw k.no (ap Refused e);
        means = rw k.no (ap (λ (g : Outcome). meaning (Refused g)) e);
        judged = k.judged;
        state = λ g q. absurd (true≢false (cc q));
      }

  -- accepted: the comparison
  pub done : (fit_refusal r cells up down word).number ≡ 0 → (f : FitResult) → Compared r cells up down word f → Fits r cells up down word (Done f)
  unfolding fit_answer fit_meaning
  done e f c =
      let k = accepts fit_call e in
      record {
        answer = rw k.yes (λ i. Done (record { holds = c.holds i; face = c.face i }));
        means = rw k.yes (λ i. record { number = (sym k.nothing i).number; place = (sym k.nothing i).place; holds = c.holds i; face = c.face i });
        judged = k.judged;
        state = λ g q. subst (FitState r cells up down word) (same_result q) (fit_state r cells up down word k.checked.state.accepted k.checked.word_long f c);
      }

  -- the judgement of a state and a word, where no output is bad, is the fit test's
  without_output : state_word_refusal r cells up down word false ≡ fit_refusal r cells up down word
  unfolding fit_refusal state_word_refusal
  without_output = without_outputs r (length cells) (pair_word_checks r cells up down word)

  -- so that a refusal of it is refused, and what passed it is compared
  pub refused_by : (f : Refusal) (a : Result (Option ℕ) Refusal) → IsErrAnd a (λ g. g ≡ f)
      → outcome_of f ≡ state_word_refusal r cells up down word false → Fits r cells up down word (fit_of a)
  refused_by f a is_err e =
      let p = err_from_is_err_and a is_err in
      rw (p.1, p.2) (refused (outcome_of f) (e ∙ without_output) (λ z. let n = numbered f in omega arith))

  pub done_by : (w : AcceptedWord) → IsWord w r cells up down word → passed ≡ state_word_refusal r cells up down word false
      → (f : FitResult) → Compared w.state.road.road w.state.cells.now w.state.up w.state.down w.word.now f → Fits r cells up down word (Done f)
  done_by w is e f c =
      let s = is.state in
      done (sym (ap (λ (g : Outcome). g.number) (e ∙ without_output))) f (rw (s.road, s.cells, s.up, s.down, is.word) at c)

  -- of a checked input whose every face holds, the test is made and says so
  pub answers_fit : FitChecked r cells up down word → all_letters_hold r cells up down word ≡ true → (a : FitAnswer) → Fits r cells up down word a → AnswersFit a
  unfolding fit_answer
  answers_fit checked holds a fits =
      (record { holds = all_letters_hold r cells up down word; face = misfit_face r cells up down word }, rw (accepts_checked fit_call checked) at fits.answer, holds)
