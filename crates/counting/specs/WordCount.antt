-- All words of a length, those that a test picks, and the count of the legal ones (document 01, "Seven modes").
use Rattle.std.specs.Prelude.{Bool, List, [], ◌∷◌, ◌++◌, ℕ, zero, suc, ◌+◌}
use Rattle.choice.specs.Choice.{pick}
use Rattle.flux.specs.Face.{letter_w, letter_l, letter_d}

-- a letter put before each of some words
unfoldable pub prefixed : ℕ → List (List ℕ) → List (List ℕ)
prefixed s [] = []
prefixed s (w ∷ ws) = (s ∷ w) ∷ prefixed s ws

-- every list of k known codes
unfoldable pub all_words : ℕ → List (List ℕ)
all_words zero = [] ∷ []
all_words (suc k) = prefixed letter_w (all_words k) ++ prefixed letter_l (all_words k) ++ prefixed letter_d (all_words k)

-- the lists that a test picks
unfoldable pub picked : (List ℕ → Bool) → List (List ℕ) → List (List ℕ)
picked test [] = []
picked test (w ∷ ws) = pick (test w) (w ∷ picked test ws) (picked test ws)

-- the count of legal words by 001 (2.19): w, l, d go to w+l+d, w+d, l+d, n times; the count is their sum
unfoldable pub turned : ℕ → ℕ → ℕ → ℕ → ℕ
turned zero w l d = w + l + d
turned (suc n) w l d = turned n (w + l + d) (w + d) (l + d)

-- w, l, d start at 1
unfoldable pub word_count : ℕ → ℕ
word_count n = turned n 1 1 1
