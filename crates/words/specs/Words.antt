-- Words: n+1 letter codes, and which of them are legal (document 01, "Flow and letter of a face", "Seven modes").
use Rattle.std.specs.Prelude.{Bool, List, [], ◌∷◌, ℕ, suc, eqb, ltb, length}
use Rattle.choice.specs.Choice.{pick, or, both}
use Rattle.flux.specs.Face.{letter_w, letter_l, letter_d}

-- the pairs that no two neighbouring faces have: W followed by D, L followed by L
unfoldable pub illegal_pair : ℕ → ℕ → Bool
illegal_pair s t = or (both (eqb s letter_w) (eqb t letter_d)) (both (eqb s letter_l) (eqb t letter_l))

-- a face offends, after the letter before it: its code is unknown, or it is the second of an illegal pair
unfoldable pub offends : ℕ → ℕ → Bool
offends before s = or (ltb letter_d s) (illegal_pair before s)

-- the lowest face that offends, counted from the first of these; their number where none does
unfoldable pub first_offence : ℕ → List ℕ → ℕ
first_offence before [] = 0
first_offence before (s ∷ ss) = pick (offends before s) 0 (suc (first_offence s ss))

-- a word is legal when W is never followed by D, nor L by L. A word is letter codes, and check 12 refuses an unknown code as it does an illegal pair,
-- so the test asks both: every code is known, and no pair is illegal. Any letter may follow D, so the first face stands as if after D
unfoldable pub legal : List ℕ → Bool
legal word = eqb (first_offence letter_d word) (length word)
