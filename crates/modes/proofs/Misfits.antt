-- The comparison of two words: what the first misfit says, and the loop that finds it, midway.
use mathlib.Core.Path.{◌≡◌, ◌∙◌, refl, sym, ap}
use mathlib.Core.Bool.{Bool, true, false}
use mathlib.Core.List.{List, [], ◌∷◌}
use Prim.Native.Nat.{ℕ, zero, suc, ◌+◌, ◌≤◌, ◌<◌, zero-le, suc-le-suc}
use native.Mathlib.Nat.{suc_inj, le_of_suc-le-suc, not-suc-le-zero}
use native.Mathlib.Numerals.{add-one}
use native.Mathlib.Omega.{arith}
use lib.Dec.{eqb}
use lib.ListN.{length, get_or, drop, drop_of_length-le}
use lib.Seq.{drop-cons, ext_get_or}
use borrow.Author.Tests.{eq-eqb, ne_eqb, eqb-true, eqb-false}
use Rattle.choice.specs.Choice.{pick}
use Rattle.road.specs.declared.Road.{Road}
use Rattle.flux.specs.Face.{letter}
use Rattle.scheme.specs.Sums.{same_list, Below}
use Rattle.scheme.specs.Word.{word_of}
use Rattle.scheme.proofs.Faces.{word_length}
use Rattle.scheme.proofs.Lists.{same_lists, lists_same}
use Rattle.modes.specs.Fit.{first_misfit}

-- a state's word has a letter a face
pub own_long : (r : Road) (cells : List ℕ) (up down : ℕ) → length (word_of r up down cells) ≡ length cells + 1
own_long r cells up down = word_length r up down cells ∙ sym (add-one (length cells))

-- one face of the comparison, by its test
misfit_here : (s t : ℕ) (ss ts : List ℕ) → (s ≡ t → ⊥) → first_misfit (s ∷ ss) (t ∷ ts) ≡ 0
unfolding first_misfit
misfit_here s t ss ts n = rw (ne_eqb s t n)

misfit_on : (s t : ℕ) (ss ts : List ℕ) → s ≡ t → first_misfit (s ∷ ss) (t ∷ ts) ≡ suc (first_misfit ss ts)
unfolding first_misfit
misfit_on s t ss ts e = rw (eq-eqb s t e)

-- what a comparison that ended at face k has seen
record Seen (ss ts : List ℕ) (k : ℕ) : Type 0 where
  bound : k ≤ length ss
  past : (i : ℕ) → i < k → get_or ss i 0 ≡ get_or ts i 0
  at : k < length ss → get_or ss k 0 ≡ get_or ts k 0 → ⊥

seen : (ss ts : List ℕ) → length ss ≡ length ts → Seen ss ts (first_misfit ss ts)
unfolding first_misfit
seen [] ts e = record { bound = zero-le; past = λ i h. absurd (not-suc-le-zero h); at = λ h. absurd (not-suc-le-zero h) }
seen (s ∷ ss) [] e = absurd (omega arith)
seen (s ∷ ss) (t ∷ ts) e = by_test (eqb s t) refl (seen ss ts (suc_inj e))
  where
    by_test : (b : Bool) → eqb s t ≡ b → Seen ss ts (first_misfit ss ts) → Seen (s ∷ ss) (t ∷ ts) (pick b (suc (first_misfit ss ts)) 0)
    by_test true q rest = record { bound = suc-le-suc rest.bound; past = past; at = λ h. rest.at (le_of_suc-le-suc h) }
      where
        past : (i : ℕ) → i < suc (first_misfit ss ts) → get_or (s ∷ ss) i 0 ≡ get_or (t ∷ ts) i 0
        past zero h = eqb-true s t q
        past (suc i) h = rest.past i (le_of_suc-le-suc h)
    by_test false q rest = record { bound = zero-le; past = λ i h. absurd (not-suc-le-zero h); at = λ h. eqb-false s t q }

-- of two words of one length: every face before the misfit is the same, and the face there is not
module _ (ss ts : List ℕ) (long : length ss ≡ length ts) where
  pub misfit_bound : first_misfit ss ts ≤ length ss
  misfit_bound = (seen ss ts long).bound

  pub misfit_past : (i : ℕ) → i < first_misfit ss ts → get_or ss i 0 ≡ get_or ts i 0
  misfit_past = (seen ss ts long).past

  pub misfit_at : first_misfit ss ts < length ss → get_or ss (first_misfit ss ts) 0 ≡ get_or ts (first_misfit ss ts) 0 → ⊥
  misfit_at = (seen ss ts long).at

  -- where there is none the words are one
  pub no_misfit : first_misfit ss ts ≡ length ss → ss ≡ ts
  no_misfit e = ext_get_or 0 ss ts long (λ i h. misfit_past i (omega arith))

-- and a word fits itself
pub fits_itself : (ss : List ℕ) → first_misfit ss ss ≡ length ss
unfolding first_misfit
fits_itself [] = refl
fits_itself (s ∷ ss) = misfit_on s s ss ss refl ∙ ap suc (fits_itself ss)

-- so there is none exactly where the words are the same letter by letter
pub same_word : (ss ts : List ℕ) → length ss ≡ length ts → first_misfit ss ts ≡ length ss → same_list ss ts ≡ true
same_word ss ts long e = rw (no_misfit ss ts long e) (lists_same ts)

pub other_word : (ss ts : List ℕ) → (first_misfit ss ts ≡ length ss → ⊥) → same_list ss ts ≡ false
other_word ss ts n = by_test (same_list ss ts) refl
  where
    by_test : (b : Bool) → same_list ss ts ≡ b → b ≡ false
    by_test true e = absurd (n (ap (first_misfit ss) (sym (same_lists ss ts e)) ∙ fits_itself ss))
    by_test false e = refl

-- face i of a word, where s, its own letter, is compared with what stands there
module _ (word : List ℕ) (i : ℕ) (h : i < length word) (s : ℕ) (ss : List ℕ) where
  face_off : (s ≡ get_or word i 0 → ⊥) → first_misfit (s ∷ ss) (drop i word) ≡ 0
  face_off n = ap (first_misfit (s ∷ ss)) (drop-cons word i 0 h) ∙ misfit_here s (get_or word i 0) ss (drop (suc i) word) n

  face_on : s ≡ get_or word i 0 → first_misfit (s ∷ ss) (drop i word) ≡ suc (first_misfit ss (drop (suc i) word))
  face_on e = ap (first_misfit (s ∷ ss)) (drop-cons word i 0 h) ∙ misfit_on s (get_or word i 0) ss (drop (suc i) word) e

-- the comparison from face i on, with the density to its left, finds what the whole comparison finds
pub record WordCompared (r : Road) (up down : ℕ) (cells word : List ℕ) (left i : ℕ) : Type 0 where
  pub inside : i ≤ length cells
  pub below : left ≤ r.jam
  pub rest : i + first_misfit (word_of r left down (drop i cells)) (drop i word) ≡ first_misfit (word_of r up down cells) word

module _ (r : Road) (up down : ℕ) (cells word : List ℕ) (long : length word ≡ length cells + 1) where
  pub begins : up ≤ r.jam → WordCompared r up down cells word up 0
  begins h = record { inside = zero-le; below = h; rest = omega arith }

  module _ (left i : ℕ) (now : WordCompared r up down cells word left i) (s : ℕ) where
    -- a face between two cells, or at the upstream end
    module _ (h : i < length cells) (e : s ≡ letter r left (get_or cells i 0)) where
      here : word_of r left down (drop i cells) ≡ s ∷ word_of r (get_or cells i 0) down (drop (suc i) cells)
      unfolding word_of
      here = ap (word_of r left down) (drop-cons cells i 0 h) ∙ ap (λ (t : ℕ). t ∷ word_of r (get_or cells i 0) down (drop (suc i) cells)) (sym e)

      pub differs : (s ≡ get_or word i 0 → ⊥) → i ≡ first_misfit (word_of r up down cells) word
      differs n =
          let off = face_off word i (omega arith) s (word_of r (get_or cells i 0) down (drop (suc i) cells)) n in
          let rest = rw here at now.rest in
          omega arith

      turn : Below r.jam cells → s ≡ get_or word i 0 → WordCompared r up down cells word (get_or cells i 0) (suc i)
      turn below q =
          let on = face_on word i (omega arith) s (word_of r (get_or cells i 0) down (drop (suc i) cells)) q in
          let rest = rw here at now.rest in
          record { inside = h; below = below i; rest = omega arith }

      pub turns : Below r.jam cells → s ≡ get_or word i 0 → WordCompared r up down cells word (get_or cells i 0) (i + 1)
      turns = rw (add-one i) turn

    -- the face at the downstream end
    module _ (h : length cells ≤ i) (e : s ≡ letter r left down) where
      last : word_of r left down (drop i cells) ≡ s ∷ []
      unfolding word_of
      last = ap (word_of r left down) (drop_of_length-le cells h) ∙ ap (λ (t : ℕ). t ∷ []) (sym e)

      at_last : i ≡ length cells
      at_last = let l = now.inside in omega arith

      pub ends_off : (s ≡ get_or word (length cells) 0 → ⊥) → length cells ≡ first_misfit (word_of r up down cells) word
      ends_off n =
          let off = face_off word i (let l = now.inside in omega arith) s [] (λ q. n (q ∙ ap (λ (k : ℕ). get_or word k 0) at_last)) in
          let rest = rw last at now.rest in
          omega (arith, at_last)

      pub ends_on : s ≡ get_or word (length cells) 0 → length cells + 1 ≡ first_misfit (word_of r up down cells) word
      unfolding first_misfit
      ends_on q =
          let on = face_on word i (let l = now.inside in omega arith) s [] (q ∙ ap (λ (k : ℕ). get_or word k 0) (sym at_last)) in
          let rest = rw last at now.rest in
          omega (arith, at_last)
