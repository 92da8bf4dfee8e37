-- The word of a state: the letter of every face, face 0 first (document 01, "A word is n+1 letter codes").
use Rattle.std.specs.Prelude.{List, [], ◌∷◌, ℕ}
use Rattle.road.specs.declared.Road.{Road}
use Rattle.flux.specs.Face.{letter}

-- the letters of the faces of a list of cells between the densities up and down
unfoldable pub word_of : Road → ℕ → ℕ → List ℕ → List ℕ
word_of r up down [] = letter r up down ∷ []
word_of r up down (x ∷ xs) = letter r up x ∷ word_of r x down xs
