-- What a reading says of its state, from what it hands back of a checked input.
use mathlib.Core.Path.{◌≡◌, refl}
use mathlib.Core.List.{List}
use Prim.Native.Nat.{ℕ}
use native.Mathlib.Numerals.{add-one}
use Rattle.road.specs.declared.Road.{Road}
use Rattle.flux.proofs.Letters.{published}
use Rattle.scheme.specs.Word.{word_of}
use Rattle.scheme.proofs.Faces.{word_letter}
use Rattle.modes.specs.Modes.{modes_of}
use Rattle.modes.specs.Fit.{FitChecked}
use Rattle.modes.specs.Reading.{counts_for, ReadChecked, OwnWord, ReadState}
use Rattle.modes.specs.declared.reading.Counts.{Counts}
use Rattle.modes.proofs.TalliedModes.{state_modes_length, state_numbered, state_counts_sum, signs_agree}
use Rattle.modes.proofs.Fitness.{word_lettered, own_word_is}
use Rattle.modes.proofs.FitAnswers.{answers_fit}

-- a checked state, with its own word, passes the fit test's checks
fit_checked : {r : Road} {cells : List ℕ} {up down letters modes : ℕ} {word : List ℕ}
    → ReadChecked r cells up down letters modes → OwnWord r cells up down word → FitChecked r cells up down word
fit_checked c own = record {
  state = c.state;
  word_long = own.long;
  word_legal = own.allowed;
}

module _ (r : Road) (cells : List ℕ) (up down letters modes : ℕ) (checked : ReadChecked r cells up down letters modes) where
  -- the state's own word, its modes and their counts
  own_state : ReadState r cells up down (word_of r up down cells) (modes_of (word_of r up down cells)) (counts_for r cells (modes_of (word_of r up down cells)))
  own_state =
      let ok = checked.state.accepted in
      let own = own_word_is r cells up down ok in
      record {
        lettered = word_lettered r cells up down ok;
        flow = λ k h. rw (word_letter r up down cells k h, add-one) (published r ok _ _);
        word = refl;
        own = own;
        fit = answers_fit r cells up down (word_of r up down cells) (fit_checked checked own) own.fits;
        fit_only = λ other a fits (f, made, holds). (fits.state f made).all.0 holds;
        moded = refl;
        modes_long = state_modes_length r up down cells;
        numbered = state_numbered r up down cells ok;
        counted = refl;
        counts_sum = state_counts_sum r up down cells ok;
        queued = refl;
        signs = signs_agree r ok up down cells;
      }

  -- and whatever is the same
  pub read_state : (word ms : List ℕ) (c : Counts) → word ≡ word_of r up down cells → ms ≡ modes_of word → c ≡ counts_for r cells ms → ReadState r cells up down word ms c
  read_state word ms c lettered moded counted = rw (counted, moded, lettered) own_state
