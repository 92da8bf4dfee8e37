-- The word count: 001 (2.19) counts the legal words among all words of n+1 letters, and that list holds each word once.
use mathlib.Core.Path.{◌≡◌, refl, ap, sym, ◌∙◌}
use mathlib.Core.Bool.{Bool, true, false}
use mathlib.Core.List.{List, [], ◌∷◌, ◌++◌, append_assoc, append-nil}
use Prim.Native.Nat.{ℕ, zero, suc, ◌+◌, ◌*◌, ◌/◌, ◌%◌, ◌≤◌, ◌<◌, zero-le}
use native.Mathlib.Nat.{mul-add, add-mul, mul-le-mul_right, mod-lt, div-add-mod', div-lt_iff_lt-mul, le_of_suc-le-suc, not-suc-le-zero}
use native.Mathlib.Omega.{arith}
use lib.Dec.{eqb, eqb-zero-suc, eqb-suc-suc}
use lib.ListN.{length, get_or, length-append, get_or-append}
use lib.Seq.{get_or-append-add}
use Rattle.choice.specs.Choice.{pick}
use Rattle.flux.specs.Face.{letter_w, letter_l, letter_d}
use Rattle.words.proofs.Legal.{Known}
use Rattle.words.specs.Words.{illegal_pair, offends, first_offence, legal}
use Rattle.counting.specs.WordCount.{prefixed, all_words, picked, turned, word_count}

-- a word is legal after a letter
legal_after : ℕ → List ℕ → Bool
legal_after before word = eqb (first_offence before word) (length word)

legal_after_cons : (before s : ℕ) (ss : List ℕ) → legal_after before (s ∷ ss) ≡ pick (offends before s) false (legal_after s ss)
unfolding legal_after first_offence
legal_after_cons before s ss = by_test (offends before s)
  where
    by_test : (b : Bool) → eqb (pick b 0 (suc (first_offence s ss))) (suc (length ss)) ≡ pick b false (eqb (first_offence s ss) (length ss))
    by_test true = eqb-zero-suc (length ss)
    by_test false = eqb-suc-suc (first_offence s ss) (length ss)

-- how many words a test picks
counted : (List ℕ → Bool) → List (List ℕ) → ℕ
counted test ws = length (picked test ws)

counted_cons : (test : List ℕ → Bool) (w : List ℕ) (ws : List (List ℕ)) → counted test (w ∷ ws) ≡ pick (test w) 1 0 + counted test ws
unfolding counted picked
counted_cons test w ws = by_test (test w)
  where
    by_test : (b : Bool) → length (pick b (w ∷ picked test ws) (picked test ws)) ≡ pick b 1 0 + length (picked test ws)
    by_test true = omega arith
    by_test false = omega arith

counted_append : (test : List ℕ → Bool) (ws us : List (List ℕ)) → counted test (ws ++ us) ≡ counted test ws + counted test us
unfolding counted picked
counted_append test [] us = omega arith
counted_append test (w ∷ ws) us =
    omega (arith, counted_cons test w ws, counted_cons test w (ws ++ us), counted_append test ws us)

-- the words that begin with s and are legal after a letter: none, or as many as are legal after s
counted_prefixed : (before s : ℕ) (ws : List (List ℕ))
    → counted (legal_after before) (prefixed s ws) ≡ pick (offends before s) 0 (counted (legal_after s) ws)
unfolding counted prefixed picked
counted_prefixed before s [] = by_test (offends before s)
  where
    by_test : (b : Bool) → ◌≡◌ {A = ℕ} 0 (pick b 0 0)
    by_test true = refl
    by_test false = refl
counted_prefixed before s (w ∷ ws) =
    counted_cons (legal_after before) (s ∷ w) (prefixed s ws)
    ∙ rw (legal_after_cons before s w, counted_prefixed before s ws, counted_cons (legal_after s) w ws)
    (by_test (offends before s))
  where
    by_test : (b : Bool) → pick (pick b false (legal_after s w)) 1 0 + pick b 0 (counted (legal_after s) ws)
        ≡ pick b 0 (pick (legal_after s w) 1 0 + counted (legal_after s) ws)
    by_test true = refl
    by_test false = refl

-- how many words of k letters are legal after a letter
after : ℕ → ℕ → ℕ
after before k = counted (legal_after before) (all_words k)

after_zero : (before : ℕ) → after before 0 ≡ 1
unfolding after counted picked legal_after first_offence all_words
after_zero before = refl

after_suc : (before k : ℕ) → after before (suc k)
    ≡ pick (offends before letter_w) 0 (after letter_w k) + pick (offends before letter_l) 0 (after letter_l k)
    + pick (offends before letter_d) 0 (after letter_d k)
unfolding after all_words
after_suc before k = simp (counted_append, counted_prefixed)

-- the turns of 001 (2.19): w, l, d words that end in W, L, D go on by as many words as are legal after these
turned_is : (n w l d : ℕ) → turned n w l d ≡ w * after letter_w n + l * after letter_l n + d * after letter_d n
unfolding turned offends illegal_pair
turned_is zero w l d = simp after_zero (omega arith)
turned_is (suc n) w l d = turned_is n (w + l + d) (w + d) (l + d) ∙ simp (after_suc, mul-add, add-mul) (omega arith)

-- the count is the number of the legal words of n+1 letters
pub count_legal : (n : ℕ) → word_count n ≡ length (picked legal (all_words (suc n)))
unfolding word_count after counted legal legal_after offends illegal_pair
count_legal n = omega (arith, turned_is n 1 1 1, after_suc letter_d n)

-- the list of all words of one more letter: three blocks, one for each first letter
length_prefixed : (s : ℕ) (ws : List (List ℕ)) → length (prefixed s ws) ≡ length ws
unfolding prefixed
length_prefixed s [] = refl
length_prefixed s (w ∷ ws) = ap suc (length_prefixed s ws)

get_or_prefixed : (s : ℕ) (ws : List (List ℕ)) (i : ℕ) → i < length ws → get_or (prefixed s ws) i [] ≡ s ∷ get_or ws i []
unfolding prefixed
get_or_prefixed s [] i h = absurd (not-suc-le-zero h)
get_or_prefixed s (w ∷ ws) zero h = refl
get_or_prefixed s (w ∷ ws) (suc i) h = get_or_prefixed s ws i (le_of_suc-le-suc h)

size_suc : (k : ℕ) → length (all_words (suc k)) ≡ 3 * length (all_words k)
unfolding all_words
size_suc k = simp (length-append, length_prefixed) (omega arith)

-- the word at place i of the block of s
module _ (ws : List (List ℕ)) (i : ℕ) (h : i < length ws) where
  in_block : (s : ℕ) (front back : List (List ℕ)) (n : ℕ) → n ≡ length front + i
      → get_or (front ++ prefixed s ws ++ back) n [] ≡ s ∷ get_or ws i []
  in_block s front back n e =
      get_or-append (front ++ prefixed s ws) back [] n (simp (length-append, length_prefixed) (omega arith))
      ∙ rw (e, get_or-append-add) (get_or_prefixed s ws i h)

  block : (s : ℕ) → s ≤ letter_d
      → get_or (prefixed letter_w ws ++ prefixed letter_l ws ++ prefixed letter_d ws) (s * length ws + i) [] ≡ s ∷ get_or ws i []
  block zero g = rw append_assoc (in_block letter_w [] (prefixed letter_l ws ++ prefixed letter_d ws) _ (omega arith))
  block (suc zero) g = in_block letter_l (prefixed letter_w ws) (prefixed letter_d ws) _ (simp length_prefixed (omega arith))
  block (suc (suc zero)) g =
      rw (← append-nil (prefixed letter_w ws ++ prefixed letter_l ws ++ prefixed letter_d ws))
      (in_block letter_d (prefixed letter_w ws ++ prefixed letter_l ws) [] _ (simp (length-append, length_prefixed) (omega arith)))
  block (suc (suc (suc s))) g = absurd (omega arith)

-- the place of a word: its first letter's block, and its place there
place : List ℕ → ℕ
place [] = 0
place (s ∷ ss) = s * length (all_words (length ss)) + place ss

placed : (word : List ℕ) → Known word
    → (place word < length (all_words (length word))) × (get_or (all_words (length word)) (place word) [] ≡ word)
unfolding place all_words
placed [] known = (omega arith, refl)
placed (s ∷ ss) known =
    let ws = all_words (length ss) in
    let (low, here) = placed ss (λ i. known (suc i)) in (
      omega (arith, size_suc (length ss), mul-le-mul_right (length ws) (known 0)),
      block ws (place ss) low s (known 0) ∙ ap {B = List ℕ} (λ w. s ∷ w) here,
    )

-- what stands at place i of the list of all words of k letters
record Entry (k i : ℕ) (word : List ℕ) : Type 0 where
  size : length word ≡ k
  known : Known word
  there : place word ≡ i

-- a known letter before known letters
known_cons : (s : ℕ) (word : List ℕ) → s ≤ letter_d → Known word → Known (s ∷ word)
known_cons s word h known zero = h
known_cons s word h known (suc i) = known i

entry_cons : {k i : ℕ} {word : List ℕ} (s : ℕ) → s ≤ letter_d → Entry k i word → Entry (suc k) (s * length (all_words k) + i) (s ∷ word)
unfolding place
entry_cons s h e = record {
  size = ap suc e.size;
  known = known_cons s _ h e.known;
  there = rw (e.size, e.there);
}

entry : (k i : ℕ) → i < length (all_words k) → Entry k i (get_or (all_words k) i [])
unfolding place all_words
entry zero zero h = record { size = refl; known = λ i. zero-le; there = refl }
entry zero (suc i) h = absurd (omega arith)
entry (suc k) i h =
    let n = length (all_words k) in
    let low : i < 3 * n = omega (arith, size_suc k) in
    let some : 0 < n = omega arith in
    let first : i / n ≤ letter_d = le_of_suc-le-suc ((div-lt_iff_lt-mul some).1 low) in
    let rest = mod-lt i some in
    let here = sym (block (all_words k) (i % n) rest (i / n) first) in
    rw (div-add-mod' i n) at (rw here at (entry_cons (i / n) first (entry k (i % n) rest)))

-- every entry of the list of all words of k letters has k letters, all known
pub words_known : (k i : ℕ) → i < length (all_words k) → (length (get_or (all_words k) i []) ≡ k) × Known (get_or (all_words k) i [])
words_known k i h = let e = entry k i h in (e.size, e.known)

-- every list of k known letters is in it
pub words_all : (k : ℕ) (word : List ℕ) → length word ≡ k → Known word
    → (i : ℕ) × (i < length (all_words k)) × (get_or (all_words k) i [] ≡ word)
words_all k word e known = rw (← e) (let (low, here) = placed word known in (place word, low, here))

-- and at one place only
pub words_once : (k i j : ℕ) → i < length (all_words k) → j < length (all_words k)
    → get_or (all_words k) i [] ≡ get_or (all_words k) j [] → i ≡ j
words_once k i j h g e = sym (entry k i h).there ∙ ap place e ∙ (entry k j g).there
