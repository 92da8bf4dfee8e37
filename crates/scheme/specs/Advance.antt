-- One step along a list of cells, for any flow F (face, upstream density, downstream density) and multiplier m.
use Rattle.std.specs.Prelude.{ℕ, suc, ◌+◌, ◌-◌, ◌*◌, List, [], ◌∷◌, ◌++◌}

-- the density on the downstream side of a cell: the next cell's, or the ghost cell's past the last
unfoldable pub ahead : ℕ → List ℕ → ℕ
ahead down [] = down
ahead down (x ∷ xs) = x

-- the cells after the step, their first left face already worked: new = m × old + in − out, where face i is the first cell's right one.
-- On an accepted road this subtraction is never cut off at 0: new + out ≡ m × old + in at each cell, which `round_cell` and `exact_cell` of proofs/Promises.antt prove of both schemes
unfoldable pub advance : ℕ → (ℕ → ℕ → ℕ → ℕ) → ℕ → ℕ → ℕ → List ℕ → List ℕ
advance m F i inflow down [] = []
advance m F i inflow down (x ∷ xs) =
    (m * x + inflow - F i x (ahead down xs)) ∷ advance m F (suc i) (F i x (ahead down xs)) down xs

-- the flow over the last face
unfoldable pub outflow : (ℕ → ℕ → ℕ → ℕ) → ℕ → ℕ → ℕ → List ℕ → ℕ
outflow F i inflow down [] = inflow
outflow F i inflow down (x ∷ xs) = outflow F (suc i) (F i x (ahead down xs)) down xs

-- the flows over the faces of these cells, the left face of the first one given, whose right face is i: n+1 of them for n cells
unfoldable pub flows : (ℕ → ℕ → ℕ → ℕ) → ℕ → ℕ → ℕ → List ℕ → List ℕ
flows F i inflow down [] = inflow ∷ []
flows F i inflow down (x ∷ xs) = inflow ∷ flows F (suc i) (F i x (ahead down xs)) down xs

-- the flow over face 0
unfoldable pub entering : (ℕ → ℕ → ℕ → ℕ) → ℕ → ℕ → List ℕ → ℕ
entering F up down xs = F 0 up (ahead down xs)

-- the flow over face n
unfoldable pub leaving : (ℕ → ℕ → ℕ → ℕ) → ℕ → ℕ → List ℕ → ℕ
leaving F up down xs = outflow F 1 (entering F up down xs) down xs

-- one whole step: all faces worked from the old densities
unfoldable pub stepped : ℕ → (ℕ → ℕ → ℕ → ℕ) → ℕ → ℕ → List ℕ → List ℕ
stepped m F up down xs = advance m F 1 (entering F up down xs) down xs

-- the densities with both ghost cells: cell i stands at place i, the ghost cells at 0 and n+1
unfoldable pub padded : ℕ → ℕ → List ℕ → List ℕ
padded up down xs = up ∷ (xs ++ (down ∷ []))

-- the flows over faces 0 to n in one step
unfoldable pub face_flows : (ℕ → ℕ → ℕ → ℕ) → ℕ → ℕ → List ℕ → List ℕ
face_flows F up down xs = flows F 1 (entering F up down xs) down xs
