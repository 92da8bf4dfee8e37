-- The rows of the seven modes (document 01, "Seven modes"; source 004, Tables III.1 and III.2 times D).
use Rattle.std.specs.Prelude.{List, [], ◌∷◌, ℕ, ◌-◌, ◌*◌, eqb, ℤ, pos, negsuc, ◌+ℤ◌, ◌*ℤ◌, get_or}
use Rattle.choice.specs.Choice.{pick}
use Rattle.road.specs.declared.Road.{Road}
use Rattle.flux.specs.Face.{letter_w, letter_l}
use Rattle.scheme.specs.Advance.{ahead}
use Rattle.modes.specs.Modes.{mode_of}

-- the fixed table of signed multipliers, a row a mode:
-- p × left, p × own, q × own, q × right, q × C, p × C, q × J
unfoldable pub row_table : List (List ℤ)
row_table =
    (pos 0 ∷ pos 0 ∷ negsuc 0 ∷ pos 1 ∷ pos 0 ∷ pos 0 ∷ pos 0 ∷ [])
    ∷ (pos 0 ∷ pos 0 ∷ negsuc 0 ∷ pos 0 ∷ pos 1 ∷ pos 0 ∷ pos 0 ∷ [])
    ∷ (pos 0 ∷ pos 0 ∷ pos 0 ∷ pos 1 ∷ negsuc 0 ∷ pos 0 ∷ pos 0 ∷ [])
    ∷ (pos 0 ∷ negsuc 0 ∷ pos 0 ∷ pos 0 ∷ pos 0 ∷ pos 1 ∷ pos 0 ∷ [])
    ∷ (pos 1 ∷ pos 0 ∷ pos 0 ∷ pos 1 ∷ pos 0 ∷ pos 0 ∷ negsuc 0 ∷ [])
    ∷ (pos 1 ∷ pos 0 ∷ pos 0 ∷ pos 0 ∷ pos 0 ∷ negsuc 0 ∷ pos 0 ∷ [])
    ∷ (pos 1 ∷ negsuc 0 ∷ pos 0 ∷ pos 0 ∷ pos 0 ∷ pos 0 ∷ pos 0 ∷ [])
    ∷ []

-- the row of a mode, 1 to 7
unfoldable pub row_of : ℕ → List ℤ
row_of mode = get_or row_table (mode - 1) []

-- a letter's published flow, source 004 (II.10) times D, over the same columns: over a cell's left face, which lies between left and own,
-- W is q × J − q × own, L is p × C, D is p × left
unfoldable pub left_flow : ℕ → List ℤ
left_flow s =
    pick (eqb s letter_w) (pos 0 ∷ pos 0 ∷ negsuc 0 ∷ pos 0 ∷ pos 0 ∷ pos 0 ∷ pos 1 ∷ [])
    (pick (eqb s letter_l) (pos 0 ∷ pos 0 ∷ pos 0 ∷ pos 0 ∷ pos 0 ∷ pos 1 ∷ pos 0 ∷ [])
    (pos 1 ∷ pos 0 ∷ pos 0 ∷ pos 0 ∷ pos 0 ∷ pos 0 ∷ pos 0 ∷ []))

-- and over its right face, which lies between own and right: W is q × J − q × right, L is p × C, D is p × own
unfoldable pub right_flow : ℕ → List ℤ
right_flow t =
    pick (eqb t letter_w) (pos 0 ∷ pos 0 ∷ pos 0 ∷ negsuc 0 ∷ pos 0 ∷ pos 0 ∷ pos 1 ∷ [])
    (pick (eqb t letter_l) (pos 0 ∷ pos 0 ∷ pos 0 ∷ pos 0 ∷ pos 0 ∷ pos 1 ∷ pos 0 ∷ [])
    (pos 0 ∷ pos 1 ∷ pos 0 ∷ pos 0 ∷ pos 0 ∷ pos 0 ∷ pos 0 ∷ []))

-- what the columns are multiplied by, for a cell between a left and a right density
unfoldable pub terms : Road → ℕ → ℕ → ℕ → List ℤ
terms r left own right =
    pos (r.free * left)
    ∷ pos (r.free * own)
    ∷ pos (r.wave * own)
    ∷ pos (r.wave * right)
    ∷ pos (r.wave * r.critical)
    ∷ pos (r.free * r.critical)
    ∷ pos (r.wave * r.jam)
    ∷ []

-- multipliers times terms, summed
unfoldable pub dot : List ℤ → List ℤ → ℤ
dot [] ts = pos 0
dot (k ∷ ks) [] = pos 0
dot (k ∷ ks) (t ∷ ts) = k *ℤ t +ℤ dot ks ts

-- a row's value: each row also has D × own. It is the density after one step, times D
unfoldable pub row_value : Road → ℕ → ℕ → ℕ → ℕ → ℤ
row_value r mode left own right = pos (r.divisor * own) +ℤ dot (row_of mode) (terms r left own right)

-- the rows of a word applied to a state: one numerator a cell
unfoldable pub row_numerators : Road → ℕ → ℕ → List ℕ → List ℕ → List ℤ
row_numerators r left down word [] = []
row_numerators r left down [] (x ∷ xs) = []
row_numerators r left down (s ∷ []) (x ∷ xs) = []
row_numerators r left down (s ∷ t ∷ ss) (x ∷ xs) =
    row_value r (mode_of s t) left x (ahead down xs) ∷ row_numerators r x down (t ∷ ss) xs
