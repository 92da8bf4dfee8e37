-- The search of a word for its first offence, midway: no face before i offends.
use mathlib.Core.Path.{◌≡◌, ◌∙◌, ap}
use mathlib.Core.Bool.{true, false}
use mathlib.Core.List.{List, ◌∷◌}
use Prim.Native.Nat.{ℕ, suc, ◌+◌, ◌≤◌, ◌<◌, zero-le}
use native.Mathlib.Numerals.{add-one}
use native.Mathlib.Omega.{arith}
use lib.ListN.{length, get_or, drop, drop_of_length-le}
use lib.Seq.{drop-cons}
use Rattle.flux.specs.Face.{letter_d}
use Rattle.words.specs.Words.{offends, first_offence}

-- one face of the search, by its test
offence_here : (before s : ℕ) (ss : List ℕ) → offends before s ≡ true → first_offence before (s ∷ ss) ≡ 0
unfolding first_offence
offence_here before s ss e = rw e

offence_on : (before s : ℕ) (ss : List ℕ) → offends before s ≡ false → first_offence before (s ∷ ss) ≡ suc (first_offence s ss)
unfolding first_offence
offence_on before s ss e = rw e

-- the search from face i on, after the letter before it, finds what the whole search finds
pub record OffenceSought (word : List ℕ) (before i : ℕ) : Type 0 where
  pub inside : i ≤ length word
  pub rest : i + first_offence before (drop i word) ≡ first_offence letter_d word

module _ (word : List ℕ) where
  pub begins : OffenceSought word letter_d 0
  begins = record { inside = zero-le; rest = omega arith }

  module _ (before i : ℕ) (now : OffenceSought word before i) where
    pub found : i < length word → offends before (get_or word i 0) ≡ true → first_offence letter_d word ≡ i
    found h e =
        let here = ap (first_offence before) (drop-cons word i 0 h) ∙ offence_here before (get_or word i 0) (drop (suc i) word) e in
        omega (arith, now.rest)

    turn : i < length word → offends before (get_or word i 0) ≡ false → OffenceSought word (get_or word i 0) (suc i)
    turn h e =
        let on = ap (first_offence before) (drop-cons word i 0 h) ∙ offence_on before (get_or word i 0) (drop (suc i) word) e in
        record { inside = h; rest = omega (arith, now.rest) }

    pub turns : i < length word → offends before (get_or word i 0) ≡ false → OffenceSought word (get_or word i 0) (i + 1)
    turns = rw (add-one i) turn

    pub ends : length word ≤ i → first_offence letter_d word ≡ length word
    unfolding first_offence
    ends h = let n = now.inside in let rest = rw (drop_of_length-le word h) at now.rest in omega arith
