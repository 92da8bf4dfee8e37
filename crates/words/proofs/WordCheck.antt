-- Check 12 of the table, alone and below one end pair's: as the code works it, what it says where it does not refuse, and what its place means.
use mathlib.Core.Path.{◌≡◌, ◌∙◌, refl, sym, ap}
use mathlib.Core.Bool.{Bool, true, false, not}
use mathlib.Core.List.{List, [], ◌∷◌}
use Prim.Native.Nat.{ℕ, ◌+◌, ◌<◌}
use native.Mathlib.Omega.{arith}
use lib.Dec.{eqb}
use lib.ListN.{length}
use borrow.Author.Tests.{eq-eqb, ne_eqb, eqb-true, eqb-false, not-true, not-false}
use Rattle.road.specs.declared.Road.{Road}
use Rattle.refusal.specs.Table.{Check, passed, refused, judge}
use Rattle.refusal.specs.Outcome.{Outcome}
use Rattle.refusal.proofs.Table.{Passing, judge_here, judge_on, ◌&◌}
use Rattle.choice.proofs.Choice.{or_left, or_right}
use Rattle.checks.specs.Values.{first_index_above, any_above}
use Rattle.checks.specs.State.{StateChecked}
use Rattle.checks.proofs.Places.{values_placed}
use Rattle.checks.proofs.State.{state_passes}
use Rattle.flux.specs.Face.{letter_d}
use Rattle.words.specs.Words.{first_offence, legal}
use Rattle.words.specs.Judging.{bad_word, word_place, word_check, state_word_checks}
use Rattle.words.specs.Places.{WordPlaced, PairWordPlaced}
use Rattle.words.proofs.Legal.{first_bound, first_past, first_at}

-- check 12 of a word of the right length, and of another
module _ (n : ℕ) (word : List ℕ) where
  module _ (long : length word ≡ n + 1) where
    pub bad_legal : (k : ℕ) → k ≡ first_offence letter_d word → not (eqb k (length word)) ≡ bad_word n word
    unfolding legal
    bad_legal k e = rw (eq-eqb (length word) (n + 1) long) (ap (λ (m : ℕ). not (eqb m (length word))) e)

    pub place_legal : (k : ℕ) → k ≡ first_offence letter_d word → k ≡ word_place n word
    place_legal k e = rw (eq-eqb (length word) (n + 1) long) e

  module _ (other : length word ≡ n + 1 → ⊥) where
    pub bad_length : true ≡ bad_word n word
    bad_length = rw (ne_eqb (length word) (n + 1) other) refl

    pub place_length : n + 1 ≡ word_place n word
    place_length = rw (ne_eqb (length word) (n + 1) other) refl

-- what the check alone comes to: of another length, with a first offence, with none
module _ (n : ℕ) (word : List ℕ) where
  refuses : bad_word n word ≡ true → refused 12 (word_place n word) ≡ judge (word_check n word ∷ [])
  refuses e = sym (judge_here (word_check n word) [] e (omega arith))

  pub other_length : (length word ≡ n + 1 → ⊥) → refused 12 (n + 1) ≡ judge (word_check n word ∷ [])
  other_length other = ap (refused 12) (place_length n word other) ∙ refuses (sym (bad_length n word other))

  module _ (long : length word ≡ n + 1) where
    pub offence : (face : ℕ) → face < length word → first_offence letter_d word ≡ face → refused 12 face ≡ judge (word_check n word ∷ [])
    offence face h e =
        ap (refused 12) (place_legal n word long face (sym e))
        ∙ refuses (sym (bad_legal n word long face (sym e)) ∙ rw (ne_eqb face (length word) (λ q. omega arith)) refl)

    pub no_offence : first_offence letter_d word ≡ length word → passed ≡ judge (word_check n word ∷ [])
    no_offence e =
        sym (judge_on (word_check n word) [] (sym (bad_legal n word long (length word) (sym e)) ∙ rw (eq-eqb (length word) (length word) refl) refl))

  pub word_passed : passed ≡ judge (word_check n word ∷ []) → bad_word n word ≡ false
  word_passed e = by_test (bad_word n word) refl
    where
      by_test : (b : Bool) → bad_word n word ≡ b → bad_word n word ≡ false
      by_test true q = let r : passed ≡ refused 12 (word_place n word) = e ∙ sym (refuses q) in absurd (let z = ap (λ (o : Outcome). o.number) r in omega arith)
      by_test false q = q

-- where the check does not refuse, the word has the right length and is legal, and the other way round
module _ (n : ℕ) (word : List ℕ) where
  pub word_long : bad_word n word ≡ false → length word ≡ n + 1
  word_long e =
      eqb-true (length word) (n + 1)
      (not-false (eqb (length word) (n + 1)) (or_left (not (eqb (length word) (n + 1))) (not (legal word)) e))

  pub word_legal : bad_word n word ≡ false → legal word ≡ true
  word_legal e = not-false (legal word) (or_right (not (eqb (length word) (n + 1))) (not (legal word)) e)

  word_passes : length word ≡ n + 1 → legal word ≡ true → bad_word n word ≡ false
  word_passes long e = simp (eq-eqb (length word) (n + 1) long, e)

-- the place of 12
module _ (n : ℕ) (word : List ℕ) where
  word_placed : bad_word n word ≡ true → WordPlaced n word (word_place n word)
  word_placed e = record {
    other_length = λ other. sym (place_length n word other);
    face = λ long. rw (← place_legal n word long _ refl, ← long) (short long);
    offends_there = λ long. rw (← place_legal n word long _ refl) (first_at letter_d word (short long));
    earlier = λ long. rw (← place_legal n word long _ refl) (first_past letter_d word);
  }
    where
      short : length word ≡ n + 1 → first_offence letter_d word < length word
      short long =
          let other : first_offence letter_d word ≡ length word → ⊥ = eqb-false _ _ (not-true _ (bad_legal n word long _ refl ∙ e)) in
          omega (arith, first_bound letter_d word)

module _ (r : Road) (cells : List ℕ) (up down : ℕ) (word : List ℕ) where
  -- the checks of a state and a word, where the state is checked and the word is legal, with what is known of the outputs
  pub state_word_passes : StateChecked r cells up down → length word ≡ length cells + 1 → legal word ≡ true → (outputs : List Check) → Passing outputs
      → Passing (state_word_checks r cells up down word outputs)
  state_word_passes s long ok outputs o =
      state_passes r cells up down s outputs (word_check (length cells) word ∷ []) o (word_passes (length cells) word long ok & tt)

  -- the places of a call with these checks, as they were returned
  pub pair_word_placed : (f : Outcome) → (f.number ≡ 9 → (any_above r.jam cells ≡ true) × (first_index_above r.jam cells + 1 ≡ f.place))
      → (f.number ≡ 10 → (any_above r.jam (up ∷ []) ≡ true) × (first_index_above r.jam (up ∷ []) ≡ f.place))
      → (f.number ≡ 11 → (any_above r.jam (down ∷ []) ≡ true) × (first_index_above r.jam (down ∷ []) ≡ f.place))
      → (f.number ≡ 12 → (bad_word (length cells) word ≡ true) × (word_place (length cells) word ≡ f.place)) → PairWordPlaced r cells up down word f
  pair_word_placed f nine ten eleven twelve = record {
    values = values_placed r cells (up ∷ []) (down ∷ []) f nine ten eleven;
    face = λ e. let (holds, same) = twelve e in rw same at (word_placed (length cells) word holds);
  }
