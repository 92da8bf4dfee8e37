-- What stands ahead: the next cell's density, or the ghost cell's past the last.
use mathlib.Core.Path.{◌≡◌, refl, ap}
use mathlib.Core.List.{List, [], ◌∷◌}
use Prim.Native.Nat.{ℕ, ◌≤◌, ◌<◌}
use native.Mathlib.Nat.{not-suc-le-zero, le_of_suc-le-suc, lt_of_not-le}
use native.Mathlib.Decide.{dec_lt}
use lib.ListN.{length, get_or, drop, drop_of_length-le}
use lib.Seq.{drop-cons}
use Rattle.scheme.specs.Advance.{ahead, entering}

pub ahead_is : (d : ℕ) {x : List ℕ} {a : ℕ} {rest : List ℕ} → x ≡ a ∷ rest → ahead d x ≡ a
unfolding ahead
ahead_is d e = ap (ahead d) e

pub ahead_first : (d : ℕ) (x : List ℕ) → 0 < length x → ahead d x ≡ get_or x 0 0
unfolding ahead
ahead_first d [] h = absurd (not-suc-le-zero h)
ahead_first d (a ∷ x) h = refl

pub enters : (F : ℕ → ℕ → ℕ → ℕ) (u d : ℕ) (x : List ℕ) → 0 < length x → entering F u d x ≡ F 0 u (get_or x 0 0)
unfolding entering
enters F u d x h = ap (F 0 u) (ahead_first d x h)

pub ahead_at : (d i : ℕ) (x : List ℕ) → i < length x → ahead d (drop i x) ≡ get_or x i 0
ahead_at d i x h = ahead_is d (drop-cons x i 0 h)

pub ahead_past : (d i : ℕ) (x : List ℕ) → length x ≤ i → ahead d (drop i x) ≡ d
unfolding ahead
ahead_past d i x h = ap (ahead d) (drop_of_length-le x h)

-- it is in range where the cells and the ghost cell are
pub ahead_below : (j d i : ℕ) (x : List ℕ) → ((k : ℕ) → get_or x k 0 ≤ j) → d ≤ j → ahead d (drop i x) ≤ j
ahead_below j d i x h g = by_place (dec_lt i (length x))
  where
    by_place : Dec (i < length x) → ahead d (drop i x) ≤ j
    by_place (yes l) = rw (ahead_at d i x l) (h i)
    by_place (no n) = rw (ahead_past d i x (le_of_suc-le-suc (lt_of_not-le n))) g
