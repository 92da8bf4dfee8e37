-- What fits a state: the word that does, the face reported of one that does not, and a state's own word.
use mathlib.Core.Path.{◌≡◌, ◌∙◌, refl, sym}
use mathlib.Core.Bool.{true, false, true≢false}
use mathlib.Core.Logic.{◌↔◌}
use mathlib.Core.List.{List}
use Prim.Native.Nat.{ℕ, ◌+◌, ◌<◌}
use native.Mathlib.Numerals.{add-one}
use native.Mathlib.Omega.{arith}
use lib.ListN.{length}
use Rattle.road.specs.Judgement.{Accepted}
use Rattle.road.specs.declared.Road.{Road}
use Rattle.flux.proofs.Letters.{one_letter}
use Rattle.scheme.specs.Word.{word_of}
use Rattle.scheme.proofs.Faces.{word_letter}
use Rattle.scheme.proofs.Lists.{same_lists, lists_same}
use Rattle.modes.specs.Fit.{first_misfit, all_letters_hold, misfit_face, Compared, LetteredWord, LowestMisfit, FitState}
use Rattle.modes.specs.Reading.{OwnWord}
use Rattle.modes.specs.Answers.{FitResult}
use Rattle.words.proofs.Legal.{word_legal}
use Rattle.modes.proofs.Misfits.{misfit_bound, misfit_past, misfit_at, own_long, same_word}

module _ (r : Road) (cells : List ℕ) (up down : ℕ) where
  -- the letters of the state's word stand in their regions
  pub word_lettered : Accepted r → LetteredWord r cells up down (word_of r up down cells)
  word_lettered ok k h = rw (word_letter r up down cells k h, add-one) (one_letter r ok _ _)

  module _ (word : List ℕ) where
    -- all hold exactly when the word is the state's own
    pub all_hold : (all_letters_hold r cells up down word ≡ true) ↔ (word ≡ word_of r up down cells)
    unfolding all_letters_hold
    all_hold = (λ e. sym (same_lists (word_of r up down cells) word e), λ e. rw e (lists_same (word_of r up down cells)))

    pub lowest_misfit : length word ≡ length cells + 1 → all_letters_hold r cells up down word ≡ false
        → LowestMisfit (word_of r up down cells) word (misfit_face r cells up down word)
    unfolding all_letters_hold misfit_face
    lowest_misfit long e =
        let own = word_of r up down cells in
        let same = own_long r cells up down ∙ sym long in
        let other : first_misfit own word ≡ length own → ⊥ = λ q. true≢false (sym (same_word own word same q) ∙ e) in
        let low : first_misfit own word < length own = omega (arith, misfit_bound own word same) in
        rw e record { inside = omega arith; differs = misfit_at own word same low; lower = misfit_past own word same }

    -- what the comparison of the faces reports, of a word of the right length
    pub fit_state : Accepted r → length word ≡ length cells + 1 → (f : FitResult) → Compared r cells up down word f → FitState r cells up down word f
    unfolding misfit_face
    fit_state ok long f c = record {
      lettered = word_lettered ok;
      all = rw c.holds all_hold;
      no_face = λ q. c.face ∙ rw (sym c.holds ∙ q) refl;
      lowest = λ q. rw c.face (lowest_misfit long (sym c.holds ∙ q));
    }

  -- the state's word is legal, and of all words the one that fits
  pub own_word_is : Accepted r → OwnWord r cells up down (word_of r up down cells)
  own_word_is ok = record {
    long = own_long r cells up down;
    allowed = word_legal r ok up down cells;
    fits = (all_hold (word_of r up down cells)).1 refl;
    only = λ word. (all_hold word).0;
  }
