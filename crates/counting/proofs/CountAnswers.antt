-- The word count's answers, refused and accepted, and demand 1.
use mathlib.Core.Path.{◌≡◌, ◌∙◌, refl, sym, ap}
use mathlib.Core.Bool.{true≢false}
use Prim.Native.Nat.{ℕ, ◌≤◌}
use native.Mathlib.Omega.{arith}
use borrow.Author.Tests.{ltb-false, le-ltb}
use Rattle.std.proofs.Common.{Result}
use Rattle.std.specs.Prelude.{IsErrAnd}
use Rattle.std.proofs.lemmas.Result.{err_from_is_err_and}
use Rattle.road.specs.Ceilings.{count_ceiling}
use Rattle.refusal.specs.Outcome.{Outcome}
use Rattle.refusal.proofs.Table.{◌&◌, no_place}
use Rattle.refusal.proofs.Calls.{Call, refuses, accepts}
use Rattle.counting.specs.WordCount.{word_count}
use Rattle.counting.specs.Count.{count_checks, count_refusal, count_answer, count_meaning, meaning, CountsWords}
use Rattle.counting.specs.declared.counting.WordCount.{WordCount}
use Rattle.counting.specs.Answers.{CountAnswer}
use Rattle.refusal.specs.Answer.{Done, Refused, answer_of, outcome_of}
use Rattle.refusal.specs.declared.Refusal.{Refusal}
use Rattle.refusal.proofs.Results.{numbered}
use Rattle.counting.proofs.WordList.{words_counted}

-- what an accepted answer carries is what it says
same_words : {words : ℕ} {c : WordCount} → ◌≡◌ {A = CountAnswer} (Done (record { words = words })) (Done c) → words ≡ c.words
same_words e = ap (λ (x : WordCount). x.words) (cc e)

module _ (n : ℕ) where
  -- nothing is refused exactly up to the ceiling
  pub count_call : Call (count_checks n) (n ≤ count_ceiling) (λ g. g.place ≡ 0) (count_refusal n)
  unfolding count_refusal
  count_call = record {
    comes_to = refl;
    distinct = tt;
    placed = λ at. no_place (count_checks n) tt;
    clear_checked = λ no. ltb-false count_ceiling n (no 15);
    passes = λ h. le-ltb count_ceiling n h & tt;
  }

  pub refused : (f : Outcome) → f ≡ count_refusal n → (f.number ≡ 0 → ⊥) → CountsWords n (Refused f)
  unfolding count_answer count_meaning
  refused f e h =
      let k = refuses count_call e h in
      record {
        answer = rw k.no (ap Refused e);
        means = rw k.no (ap (λ (g : Outcome). meaning (Refused g)) e);
        judged = k.judged;
        counted = λ c q. absurd (true≢false (cc q));
      }

  pub done : (count_refusal n).number ≡ 0 → (words : ℕ) → words ≡ word_count n → CountsWords n (Done (record { words = words }))
  unfolding count_answer count_meaning
  done e words same =
      let k = accepts count_call e in
      record {
        answer = rw k.yes (λ i. Done (record { words = same i }));
        means = rw k.yes (λ i. record { number = (sym k.nothing i).number; place = (sym k.nothing i).place; words = same i });
        judged = k.judged;
        counted = λ c q. rw (sym (same_words q) ∙ same) (words_counted n k.checked);
      }

  -- what the judgement told
  pub told : (f : Refusal) → outcome_of f ≡ count_refusal n → (result : Result WordCount Refusal) → IsErrAnd result (λ g. g ≡ f) → CountsWords n (answer_of result)
  told f e result is_err =
      let (g, is, same) = err_from_is_err_and result is_err in
      rw (is, same) (refused (outcome_of f) e (λ z. let n = numbered f in omega arith))
