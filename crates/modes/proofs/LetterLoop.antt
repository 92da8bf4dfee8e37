-- The letters, midway: those before face i are the word's.
use mathlib.Core.Path.{◌≡◌, ◌∙◌, refl, sym, ap}
use mathlib.Core.List.{List, [], ◌∷◌}
use Prim.Native.Nat.{ℕ, zero, suc, ◌+◌, ◌-◌, ◌≤◌, ◌<◌}
use native.Mathlib.Nat.{le_of_suc-le-suc, not-suc-le-zero}
use native.Mathlib.Numerals.{add-one}
use native.Mathlib.Omega.{arith}
use lib.ListN.{length, get_or, set, length-set}
use Rattle.std.proofs.lemmas.List.{ext_get_or}
use Rattle.std.proofs.lemmas.List.Edits.{fill_by_more}
use Rattle.road.specs.declared.Road.{Road}
use Rattle.flux.specs.Face.{letter}
use Rattle.scheme.specs.Word.{word_of}
use Rattle.scheme.proofs.Faces.{word_length}

-- the letters of the first face, of one between two cells, and of the last
first : (r : Road) (up down : ℕ) (xs : List ℕ) → 0 < length xs → letter r up (get_or xs 0 0) ≡ get_or (word_of r up down xs) 0 0
unfolding word_of
first r up down [] h = absurd (not-suc-le-zero h)
first r up down (x ∷ xs) h = refl

inner : (r : Road) (up down : ℕ) (xs : List ℕ) (k : ℕ) → suc k < length xs
    → letter r (get_or xs k 0) (get_or xs (suc k) 0) ≡ get_or (word_of r up down xs) (suc k) 0
unfolding word_of
inner r up down [] k h = absurd (not-suc-le-zero h)
inner r up down (x ∷ []) k h = absurd (not-suc-le-zero (le_of_suc-le-suc h))
inner r up down (x ∷ y ∷ xs) zero h = refl
inner r up down (x ∷ y ∷ xs) (suc k) h = inner r x down (y ∷ xs) k (le_of_suc-le-suc h)

last : (r : Road) (up down x : ℕ) (xs : List ℕ) → letter r (get_or (x ∷ xs) (length xs) 0) down ≡ get_or (word_of r up down (x ∷ xs)) (suc (length xs)) 0
unfolding word_of
last r up down x [] = refl
last r up down x (y ∷ xs) = last r x down y xs

pub record Lettering (r : Road) (up down : ℕ) (cells letters : List ℕ) (i : ℕ) : Type 0 where
  pub long : length letters ≡ length cells + 1
  pub before : (k : ℕ) → k < i → get_or letters k 0 ≡ get_or (word_of r up down cells) k 0

module _ (r : Road) (up down : ℕ) (cells letters : List ℕ) where
  -- one more letter
  more : (i s : ℕ) → Lettering r up down cells letters i → i ≤ length cells → s ≡ get_or (word_of r up down cells) i 0
      → Lettering r up down cells (set letters i s) (i + 1)
  more i s now h e =
      let l = now.long in
      rw e record {
        long = length-set letters i _ ∙ now.long;
        before = fill_by_more (λ k. get_or (word_of r up down cells) k 0) letters i 0 (omega arith) now.before;
      }

  pub begins : {s : ℕ} → length letters ≡ length cells + 1 → 0 < length cells → s ≡ letter r up (get_or cells 0 0)
      → Lettering r up down cells (set letters 0 s) 1
  begins long some e =
      more 0 _ (record { long = long; before = λ k l. absurd (not-suc-le-zero l) }) (omega arith) (e ∙ first r up down cells some)

  pub turns : (i : ℕ) {s : ℕ} → Lettering r up down cells letters i → 1 ≤ i → i < length cells
      → s ≡ letter r (get_or cells (i - 1) 0) (get_or cells i 0) → Lettering r up down cells (set letters i s) (i + 1)
  turns zero now low h e = absurd (not-suc-le-zero low)
  turns (suc k) now low h e =
      let left : suc k - 1 ≡ k = omega arith in
      more (suc k) _ now (omega arith) (e ∙ ap (λ (j : ℕ). letter r (get_or cells j 0) (get_or cells (suc k) 0)) left ∙ inner r up down cells k h)

  pub ends : {i s : ℕ} → Lettering r up down cells letters i → length cells ≤ i → 0 < length cells
      → s ≡ letter r (get_or cells (length cells - 1) 0) down → set letters (length cells) s ≡ word_of r up down cells
  ends {i = i} {s = s} now h some e =
      let upto : Lettering r up down cells letters (length cells) = record { long = now.long; before = λ k l. now.before k (omega arith) } in
      let all = more (length cells) s upto (omega arith) (e ∙ at_end cells some) in
      let same : length (set letters (length cells) s) ≡ length (word_of r up down cells) = all.long ∙ add-one (length cells) ∙ sym (word_length r up down cells) in
      ext_get_or 0 _ _ same (λ k l. all.before k (let n = all.long in omega arith))
    where
      at_end : (xs : List ℕ) → 0 < length xs → letter r (get_or xs (length xs - 1) 0) down ≡ get_or (word_of r up down xs) (length xs) 0
      at_end [] h = absurd (not-suc-le-zero h)
      at_end (x ∷ xs) h =
          let left : suc (length xs) - 1 ≡ length xs = omega arith in
          ap (λ (j : ℕ). letter r (get_or (x ∷ xs) j 0) down) left ∙ last r up down x xs
