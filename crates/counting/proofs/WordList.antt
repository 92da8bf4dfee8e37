-- The list of the legal words: it holds each of them once and nothing else, and the count is its length.
use mathlib.Core.Path.{◌≡◌, ◌∙◌, refl, sym, ap}
use mathlib.Core.Bool.{Bool, true, false}
use mathlib.Core.List.{List, [], ◌∷◌}
use Prim.Native.Nat.{ℕ, zero, suc, ◌+◌, ◌≤◌, zero-le, suc-le-suc}
use native.Mathlib.Nat.{suc_inj, le_of_suc-le-suc, not-suc-le-zero}
use native.Mathlib.Numerals.{add-one}
use native.Mathlib.Omega.{arith}
use Rattle.choice.specs.Choice.{pick}
use Rattle.road.specs.Ceilings.{count_ceiling}
use Rattle.words.specs.Words.{legal}
use Rattle.counting.specs.WordCount.{all_words, picked, word_count}
use Rattle.counting.specs.LegalWordsCounted.{StandsAt, LegalWordsCounted}
use Rattle.words.proofs.Legal.{legal_known, legal_word}
use Rattle.counting.proofs.LegalCount.{count_legal, words_known, words_all, words_once}
use Rattle.modes.proofs.ReadOff.{read_off}

-- no word stands at two places
abbrev Once : List (List ℕ) → Type 0
Once ws = (word : List ℕ) (i j : ℕ) → StandsAt ws word i → StandsAt ws word j → i ≡ j

-- one place further in a longer list
further : {word : List ℕ} (w : List ℕ) (ws : List (List ℕ)) → (i : ℕ) × StandsAt ws word i → (i : ℕ) × StandsAt (w ∷ ws) word i
further w ws (i, (low, here)) = (suc i, (suc-le-suc low, here))

module _ (test : List ℕ → Bool) where
  -- a word that the test picks is in the picked list
  picked_in : (ws : List (List ℕ)) (word : List ℕ) → test word ≡ true → (i : ℕ) → StandsAt ws word i → (j : ℕ) × StandsAt (picked test ws) word j
  unfolding picked
  picked_in [] word e i (low, here) = absurd (not-suc-le-zero low)
  picked_in (w ∷ ws) word e zero (low, here) = rw (here, e) (0, (suc-le-suc zero-le, refl))
  picked_in (w ∷ ws) word e (suc i) (low, here) = by_test (test w) (picked_in ws word e i (le_of_suc-le-suc low, here))
    where
      by_test : (b : Bool) → (j : ℕ) × StandsAt (picked test ws) word j → (j : ℕ) × StandsAt (pick b (w ∷ picked test ws) (picked test ws)) word j
      by_test true there = further w (picked test ws) there
      by_test false there = there

  -- a word of the picked list is in the whole list, and the test picks it
  picked_from : (ws : List (List ℕ)) (word : List ℕ) (j : ℕ) → StandsAt (picked test ws) word j → (test word ≡ true) × ((i : ℕ) × StandsAt ws word i)
  unfolding picked
  picked_from [] word j (low, here) = absurd (not-suc-le-zero low)
  picked_from (w ∷ ws) word j there = by_test (test w) refl (picked_from ws word) j there
    where
      by_test : (b : Bool) → test w ≡ b → ((j : ℕ) → StandsAt (picked test ws) word j → (test word ≡ true) × ((i : ℕ) × StandsAt ws word i))
          → (j : ℕ) → StandsAt (pick b (w ∷ picked test ws) (picked test ws)) word j → (test word ≡ true) × ((i : ℕ) × StandsAt (w ∷ ws) word i)
      by_test true e ih zero (low, here) = (ap test (sym here) ∙ e, (0, (suc-le-suc zero-le, here)))
      by_test true e ih (suc j) (low, here) = let (t, there) = ih j (le_of_suc-le-suc low, here) in (t, further w ws there)
      by_test false e ih j there = let (t, found) = ih j there in (t, further w ws found)

  -- picking puts no word at two places
  picked_once : (ws : List (List ℕ)) → Once ws → Once (picked test ws)
  unfolding picked
  picked_once [] once word i j p q = absurd (not-suc-le-zero p.0)
  picked_once (w ∷ ws) once word i j p q = by_test (test w) (picked_once ws rest word) i j p q
    where
      rest : Once ws
      rest u k l (low, here) (high, there) = suc_inj (once u (suc k) (suc l) (suc-le-suc low, here) (suc-le-suc high, there))

      -- the first word does not come back
      not_again : {A : Type 0} (k : ℕ) → w ≡ word → StandsAt (picked test ws) word k → A
      not_again k here there =
          let (t, (l, (low, at))) = picked_from ws word k there in
          absurd (omega (arith, once word 0 (suc l) (suc-le-suc zero-le, here) (suc-le-suc low, at)))

      by_test : (b : Bool) → ((i j : ℕ) → StandsAt (picked test ws) word i → StandsAt (picked test ws) word j → i ≡ j) → (i j : ℕ)
          → StandsAt (pick b (w ∷ picked test ws) (picked test ws)) word i → StandsAt (pick b (w ∷ picked test ws) (picked test ws)) word j → i ≡ j
      by_test true ih zero zero p q = refl
      by_test true ih zero (suc j) (low, here) (high, there) = not_again j here (le_of_suc-le-suc high, there)
      by_test true ih (suc i) zero (low, here) (high, there) = not_again i there (le_of_suc-le-suc low, here)
      by_test true ih (suc i) (suc j) (low, here) (high, there) = ap suc (ih i j (le_of_suc-le-suc low, here) (le_of_suc-le-suc high, there))
      by_test false ih i j p q = ih i j p q

-- the count of up to the ceiling's cells
pub words_counted : (n : ℕ) → n ≤ count_ceiling → LegalWordsCounted n (word_count n)
words_counted n few = record {
  number = rw add-one (count_legal n);
  every = λ word long allowed.
      let (i, low, here) = words_all (n + 1) word long (legal_known ((legal_word word).0 allowed)) in
      picked_in legal (all_words (n + 1)) word allowed i (low, here);
  only = λ word i there.
      let (allowed, (j, (low, here))) = picked_from legal (all_words (n + 1)) word i there in
      (rw here at (words_known (n + 1) j low).0, allowed);
  once = picked_once legal (all_words (n + 1)) (λ word i j p q. words_once (n + 1) i j p.0 q.0 (p.1 ∙ sym q.1));
  occurs = λ low word long allowed r ok. read_off r ok word allowed (omega arith) (omega arith);
}
