-- What the places mean that several calls report.
use Rattle.std.specs.Prelude.{◌≡◌, true, false, List, [], ◌∷◌, ℕ, ◌+◌, ◌≤◌, ◌<◌, length, get_or}
use Rattle.refusal.specs.Outcome.{Outcome as Refusal}
use Rattle.road.specs.declared.Road.{Road}
use Rattle.flux.specs.Face.{letter_d}
use Rattle.words.specs.Places.{offends_at}

-- a list's first density above j stands at k
abbrev pub FirstOver : ℕ → List ℕ → ℕ → Type 0
FirstOver j xs k = (j < get_or xs k 0) × ((i : ℕ) → i < k → get_or xs i 0 ≤ j)

-- the places of 9, "lowest such cell", and of 10 and 11, "first such t, from 0"
abbrev pub ValuePlaces : Road → List ℕ → List ℕ → List ℕ → Refusal → Type 0
ValuePlaces r cells ups downs f =
    (f.number ≡ 9 → (k : ℕ) × (f.place ≡ k + 1) × FirstOver r.jam cells k)
    × (f.number ≡ 10 → FirstOver r.jam ups f.place)
    × (f.number ≡ 11 → FirstOver r.jam downs f.place)

-- the place of 12: "n+1; else lowest face (of a pair, the second)"
abbrev pub WordPlace : ℕ → List ℕ → Refusal → Type 0
WordPlace n word f =
    f.number ≡ 12
    → ((length word ≡ n + 1 → ⊥) → f.place ≡ n + 1)
    × (length word ≡ n + 1
    → (f.place < n + 1) × (offends_at letter_d word f.place ≡ true) × ((i : ℕ) → i < f.place → offends_at letter_d word i ≡ false))

-- the places of a call with one end pair, and with a word besides
abbrev pub PairPlaces : Road → List ℕ → ℕ → ℕ → Refusal → Type 0
PairPlaces r cells up down f = ValuePlaces r cells (up ∷ []) (down ∷ []) f

abbrev pub PairWordPlaces : Road → List ℕ → ℕ → ℕ → List ℕ → Refusal → Type 0
PairWordPlaces r cells up down word f = PairPlaces r cells up down f × WordPlace (length cells) word f

-- a call whose every check reports place 0
abbrev pub NoPlace : Refusal → Type 0
NoPlace f = f.place ≡ 0
