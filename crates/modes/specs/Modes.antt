-- The seven modes (document 01, "Seven modes"; source 004, Tables III.1 and III.2).
use Rattle.std.specs.Prelude.{List, [], ◌∷◌, ℕ, eqb}
use Rattle.choice.specs.Choice.{pick}
use Rattle.flux.specs.Face.{letter_w, letter_l}

-- the mode of a cell whose left face has the letter s and whose right face has the letter t, of a legal pair
unfoldable pub mode_of : ℕ → ℕ → ℕ
mode_of s t =
    pick (eqb s letter_w) (pick (eqb t letter_w) 1 2)
    (pick (eqb s letter_l) (pick (eqb t letter_w) 3 4)
    (pick (eqb t letter_w) 5 (pick (eqb t letter_l) 6 7)))

-- the modes of the cells between the letters of a word
unfoldable pub modes_of : List ℕ → List ℕ
modes_of [] = []
modes_of (s ∷ []) = []
modes_of (s ∷ t ∷ ss) = mode_of s t ∷ modes_of (t ∷ ss)
