-- The pieces of a text: up to a mark, and past the blanks.
use mathlib.Core.Path.{◌≡◌, ◌∙◌, refl, ap, sym}
use mathlib.Core.Bool.{Bool, true, false, not, cond}
use mathlib.Core.List.{List, [], ◌∷◌}
use Prim.Native.Nat.{ℕ, zero, suc, ◌+◌, ◌-◌, ◌≤◌, ◌<◌, zero-le, suc-le-suc}
use native.Mathlib.Nat.{not-suc-le-zero}
use native.Mathlib.Omega.{arith}
use lib.Dec.{ltb}
use native.Mathlib.Nat.{le_refl, le_of_eq}
use lib.ListN.{length, take, drop, get_or, drop_of_length-le, length-drop}
use lib.Seq.{drop-cons, drop-drop, take_all}
use native.Mathlib.Numerals.{add-one}
use borrow.Author.Tests.{ltb-false}
use Rattle.std.specs.List.{position_or_len, position}
use Rattle.std.specs.Option.{unwrap_or}
use Rattle.std.specs.Prelude.{Some, None}
use Rattle.std.proofs.lemmas.List.Recursion.{is_position_or_len}
use Rattle.std.proofs.lemmas.List.Sums.{fails_before_first}
use Rattle.std.proofs.lemmas.List.Quantifiers.{position-Some}
use Rattle.choice.specs.Choice.{pick}
use Rattle.cli_vocabulary.specs.Pieces.{newline, blank, is_blank, cuts, before, PieceEnds, grown, split, filled, words_in}

-- a search for the first mark
pub before_position : (mark : ℕ) (bs : List ℕ) → before mark bs ≡ position_or_len (cuts mark) bs
unfolding before
before_position mark = is_position_or_len (before mark) (cuts mark) refl (λ b bs. by_test (cuts mark b) (before mark bs))
  where
    by_test : (t : Bool) (n : ℕ) → pick t 0 (suc n) ≡ cond t 0 (1 + n)
    by_test true n = refl
    by_test false n = omega arith

pub before_bound : (mark : ℕ) (bs : List ℕ) → before mark bs ≤ length bs
unfolding before
before_bound mark [] = zero-le
before_bound mark (b ∷ bs) = by_test (cuts mark b) (before_bound mark bs)
  where
    by_test : (t : Bool) → before mark bs ≤ length bs → pick t 0 (suc (before mark bs)) ≤ suc (length bs)
    by_test true h = zero-le
    by_test false h = suc-le-suc h

pub before_found : (mark : ℕ) (bs : List ℕ) → unwrap_or (position (cuts mark) bs) (length bs) ≡ before mark bs
before_found mark bs = rw (← before_position mark bs) (by_test (ltb (before mark bs) (length bs)) refl)
  where
    by_test : (t : Bool) → ltb (before mark bs) (length bs) ≡ t → unwrap_or (cond t (Some (before mark bs)) None) (length bs) ≡ before mark bs
    by_test true e = refl
    by_test false e = omega (arith, ltb-false _ _ e, before_bound mark bs)

-- a piece from a place on, up to the next mark
pub piece_ends : (mark from n : ℕ) (text : List ℕ) → from ≤ length text → n ≡ before mark (take (length text - from) (drop from text))
    → PieceEnds text from mark (from + n)
piece_ends mark from n text h e =
    let all : take (length text - from) (drop from text) ≡ drop from text = take_all (length text - from) (drop from text) (le_of_eq (length-drop from text)) in
    let here : n ≡ before mark (drop from text) = rw all at e in
    record {
      at = ap (λ (k : ℕ). from + k) here;
      after = omega arith;
      inside = omega (arith, here, before_bound mark (drop from text), length-drop from text);
    }

module _ (mark : ℕ) where
  -- the first piece with a byte before it, and the others
  grown_cut : (b : ℕ) (bs : List ℕ) → grown b (split mark bs) ≡ (b ∷ take (before mark bs) bs) ∷ split mark (drop (suc (before mark bs)) bs)
  unfolding before split grown
  grown_cut b [] = refl
  grown_cut b (c ∷ cs) = by_test (cuts mark c) (grown_cut c cs)
    where
      by_test : (t : Bool) → grown c (split mark cs) ≡ (c ∷ take (before mark cs) cs) ∷ split mark (drop (suc (before mark cs)) cs)
          → grown b (pick t ([] ∷ split mark cs) (grown c (split mark cs)))
          ≡ (b ∷ take (pick t 0 (suc (before mark cs))) (c ∷ cs)) ∷ split mark (drop (suc (pick t 0 (suc (before mark cs)))) (c ∷ cs))
      by_test true e = refl
      by_test false e = ap (grown b) e

  -- the first piece, and the others
  pub first_cut : (text : List ℕ) → 0 < length text → split mark text ≡ take (before mark text) text ∷ split mark (drop (suc (before mark text)) text)
  unfolding before split
  first_cut [] h = absurd (not-suc-le-zero h)
  first_cut (b ∷ bs) h = by_test (cuts mark b)
    where
      by_test : (t : Bool) → pick t ([] ∷ split mark bs) (grown b (split mark bs))
          ≡ take (pick t 0 (suc (before mark bs))) (b ∷ bs) ∷ split mark (drop (suc (pick t 0 (suc (before mark bs)))) (b ∷ bs))
      by_test true = refl
      by_test false = grown_cut b bs

-- the words after the first mark
rest_words : (text : List ℕ) → filled (split blank (drop (suc (before blank text)) text)) ≡ words_in (drop (before blank text) text)
unfolding before split filled words_in
rest_words [] = refl
rest_words (b ∷ bs) = by_test (is_blank b) refl (rest_words bs)
  where
    by_test : (t : Bool) → is_blank b ≡ t
        → filled (split blank (drop (suc (before blank bs)) bs)) ≡ words_in (drop (before blank bs) bs)
        → filled (split blank (drop (suc (pick t 0 (suc (before blank bs)))) (b ∷ bs))) ≡ words_in (drop (pick t 0 (suc (before blank bs))) (b ∷ bs))
    by_test true e more = rw e refl
    by_test false e more = more

-- one byte of a text
module _ (b : ℕ) (bs : List ℕ) where
  words_blank : is_blank b ≡ true → words_in (b ∷ bs) ≡ words_in bs
  unfolding words_in split filled
  words_blank e = rw e

  before_other : is_blank b ≡ false → before blank (b ∷ bs) ≡ suc (before blank bs)
  unfolding before
  before_other e = rw e

  -- a text that starts with a word
  word_first : is_blank b ≡ false
      → words_in (b ∷ bs) ≡ take (before blank (b ∷ bs)) (b ∷ bs) ∷ words_in (drop (before blank (b ∷ bs)) (b ∷ bs))
  unfolding words_in filled
  word_first e =
      ap filled (first_cut blank (b ∷ bs) (omega arith))
      ∙ first_filled (before blank bs) (before_other e)
      ∙ ap (λ (ws : List (List ℕ)). take (before blank (b ∷ bs)) (b ∷ bs) ∷ ws) (rest_words (b ∷ bs))
    where
      first_filled : (k : ℕ) → before blank (b ∷ bs) ≡ suc k
          → filled (take (before blank (b ∷ bs)) (b ∷ bs) ∷ split blank (drop (suc (before blank (b ∷ bs))) (b ∷ bs)))
          ≡ take (before blank (b ∷ bs)) (b ∷ bs) ∷ filled (split blank (drop (suc (before blank (b ∷ bs))) (b ∷ bs)))
      first_filled k n = rw n

-- the words past blanks
past_blanks : (text : List ℕ) (s : ℕ) → ((k : ℕ) → k < s → is_blank (get_or text k 0) ≡ true) → words_in text ≡ words_in (drop s text)
past_blanks text zero blanks = refl
past_blanks [] (suc s) blanks = refl
past_blanks (b ∷ bs) (suc s) blanks = words_blank b bs (blanks zero (omega arith)) ∙ past_blanks bs s (λ k h. blanks (suc k) (suc-le-suc h))

abbrev in_word : ℕ → Bool
in_word b = not (is_blank b)

blank_here : (t : Bool) → not t ≡ false → t ≡ true
blank_here true e = refl
blank_here false e = sym e

word_here : (t : Bool) → not t ≡ true → t ≡ false
word_here true e = sym e
word_here false e = refl

none_in : words_in [] ≡ []
unfolding words_in split filled
none_in = refl

-- a text of blanks has no words
pub no_words : (text : List ℕ) → position in_word text ≡ None → words_in text ≡ []
no_words text e = by_test (ltb (position_or_len in_word text) (length text)) refl e
  where
    by_test : (t : Bool) → ltb (position_or_len in_word text) (length text) ≡ t
        → cond t (Some (position_or_len in_word text)) None ≡ None → words_in text ≡ []
    by_test true n e = cc
    by_test false n e =
        past_blanks text (length text)
        (λ k h. blank_here _ (fails_before_first in_word text k 0 (omega (arith, ltb-false _ _ n))))
        ∙ rw (drop_of_length-le text (le_refl (length text))) none_in

-- the first word of a text, and the others
pub next_word : (text word rest : List ℕ) (s : ℕ) → position in_word text ≡ Some s
    → word ≡ take (before blank (take (length text - s) (drop s text))) (take (length text - s) (drop s text))
    → rest ≡ drop (before blank (take (length text - s) (drop s text))) (take (length text - s) (drop s text))
    → words_in text ≡ word ∷ words_in rest
next_word text word rest s e f g =
    let found = position-Some in_word text s 0 e in
    let inside : s < length text = found.0 in
    let all : take (length text - s) (drop s text) ≡ drop s text = take_all (length text - s) (drop s text) (le_of_eq (length-drop s text)) in
    past_blanks text s (λ k h. blank_here _ (found.2 k h))
    ∙ rw (f, g, all, drop-cons text s 0) (word_first (get_or text s 0) (drop (suc s) text) (word_here _ found.1))

pub no_lines : (text : List ℕ) → length text ≡ 0 → split newline text ≡ []
unfolding split
no_lines [] e = refl
no_lines (b ∷ bs) e = absurd (omega arith)

-- the first line of a text, and the others
pub next_line : (text line rest : List ℕ) → (length text ≡ 0 → ⊥) → line ≡ take (before newline text) text → rest ≡ drop (before newline text) text
    → split newline text ≡ line ∷ split newline (drop 1 rest)
next_line text line rest some e f =
    first_cut newline text (omega arith)
    ∙ rw (e, f, drop-drop 1 (before newline text) text, add-one (before newline text)) refl
