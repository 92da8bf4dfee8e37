-- A cell's smallest change is the shortest way across one of its two thresholds: only its two faces see it, and on every accepted road there is such a way.
use mathlib.Core.Path.{◌≡◌, ◌∙◌, refl, sym, ap, ap₂}
use mathlib.Core.Bool.{Bool, true, false, not}
use mathlib.Core.List.{List, [], ◌∷◌}
use Prim.Native.Nat.{ℕ, zero, suc, ◌+◌, ◌-◌, ◌≤◌, ◌<◌}
use native.Mathlib.Nat.{le_refl, le_trans, lt_of_not-le, not-suc-le-zero, le_of_suc-le-suc}
use native.Mathlib.Decide.{dec_le}
use native.Mathlib.Omega.{arith}
use lib.Dec.{eqb}
use lib.IntN.{pos, neg_ℤ, nat_abs}
use lib.ListN.{length, get_or, set, drop}
use lib.Seq.{set-get_or}
use borrow.Author.Tests.{eq-eqb, le-leb, lt-leb, leb-true, lt-ltb, le-ltb, ltb-true}
use Rattle.choice.specs.Choice.{or, both}
use Rattle.choice.proofs.Choice.{both_true}
use Rattle.road.specs.Judgement.{Accepted}
use Rattle.road.specs.declared.Road.{Road}
use Rattle.flux.specs.Face.{letter}
use Rattle.flux.specs.Thresholds.{left_threshold, right_threshold}
use Rattle.flux.proofs.Thresholds.{parted, split_parts, left_split, left_low, left_high, right_split, right_high, right_below_jam}
use Rattle.scheme.specs.Advance.{ahead}
use Rattle.scheme.specs.Sums.{gap, same_list, Below}
use Rattle.scheme.specs.Word.{word_of}
use Rattle.scheme.proofs.Lists.{lists_same}
use Rattle.nearest.specs.Nearest.{alters, change, Smallest}
use Rattle.nearest.specs.Ways.{crossing}
use Rattle.nearest.proofs.Search.{smallest_down, smallest_up, smallest_small, smallest_once, search_smallest}

-- the densities on the two sides of cell i
abbrev pub behind : ℕ → List ℕ → ℕ → ℕ
behind up cells i = get_or (up ∷ cells) i 0

abbrev pub beyond : ℕ → List ℕ → ℕ → ℕ
beyond down cells i = ahead down (drop (suc i) cells)

module _ (r : Road) where
  -- the word to the right of a cell changes at its first face alone
  first_face : (down own x : ℕ) (cells : List ℕ)
      → same_list (word_of r own down cells) (word_of r x down cells) ≡ eqb (letter r own (ahead down cells)) (letter r x (ahead down cells))
  unfolding word_of same_list ahead
  first_face down own x [] = both_true (eqb (letter r own down) (letter r x down))
  first_face down own x (y ∷ ys) = ap (both (eqb (letter r own y) (letter r x y))) (lists_same (word_of r y down ys)) ∙ both_true (eqb (letter r own y) (letter r x y))

  -- only the two faces of cell i see its density
  pub word_local : (up down : ℕ) (cells : List ℕ) (i x : ℕ) → i < length cells
      → same_list (word_of r up down cells) (word_of r up down (set cells i x))
      ≡ both (eqb (letter r (behind up cells i) (get_or cells i 0)) (letter r (behind up cells i) x))
      (eqb (letter r (get_or cells i 0) (beyond down cells i)) (letter r x (beyond down cells i)))
  unfolding word_of same_list
  word_local up down [] i x h = absurd (not-suc-le-zero h)
  word_local up down (own ∷ cells) zero x h = ap (both (eqb (letter r up own) (letter r up x))) (first_face down own x cells)
  word_local up down (y ∷ cells) (suc i) x h =
      ap (λ (b : Bool). both b (same_list (word_of r y down cells) (word_of r y down (set cells i x)))) (eq-eqb (letter r up y) (letter r up y) refl)
      ∙ word_local y down cells i x (le_of_suc-le-suc h)

-- a density that one of two thresholds parts from the own one
module _ (left right own x : ℕ) where
  abbrev apart : Bool
  apart = or (parted left own x) (parted right own x)

  parted_ways : {P : Type 0} (t : ℕ) → (own ≤ t → t < x → P) → (t < own → x ≤ t → P) → parted t own x ≡ true → P
  parted_ways {P} t up down e = by_side (dec_le own t)
    where
      by_side : Dec (own ≤ t) → P
      by_side (yes h) = up h (ltb-true t x (sym (simp (le-leb own t h)) ∙ e))
      by_side (no n) = let h = lt_of_not-le n in down h (leb-true x t (sym (simp (lt-leb own t h)) ∙ e))

  crossed : {P : Type 0} → (parted left own x ≡ true → P) → (parted right own x ≡ true → P) → apart ≡ true → P
  crossed {P} by_left by_right e = by_test (parted left own x) refl
    where
      by_test : (q : Bool) → parted left own x ≡ q → P
      by_test true l = by_left l
      by_test false l = by_right (sym (ap (λ (q : Bool). or q (parted right own x)) l) ∙ e)

  parted_up : (t : ℕ) → own ≤ t → t < x → parted t own x ≡ true
  parted_up t h g = simp (le-leb own t h, lt-ltb t x g)

  parted_down : (t : ℕ) → t < own → x ≤ t → parted t own x ≡ true
  parted_down t h g = simp (lt-leb own t h, le-leb x t g)

  -- one threshold that parts them is enough
  by_the_left : parted left own x ≡ true → apart ≡ true
  by_the_left e = ap (λ (q : Bool). or q (parted right own x)) e

  by_the_right : parted right own x ≡ true → apart ≡ true
  by_the_right e = ap (or (parted left own x)) e ∙ whatever (parted left own x)
    where
      whatever : (q : Bool) → or q true ≡ true
      whatever true = refl
      whatever false = refl

-- which way across the code takes
module _ (jam own left right : ℕ) where
  pub way_up_right : own ≤ right → crossing jam own left right ≡ pos (right + 1 - own)
  unfolding crossing
  way_up_right h = rw (le-leb own right h) refl

  pub way_down_left : right < own → left < own → crossing jam own left right ≡ neg_ℤ (pos (own - left))
  unfolding crossing
  way_down_left h k = rw (lt-leb own right h, lt-ltb left own k) refl

  pub way_down_only : right < own → own ≤ left → jam ≤ left → crossing jam own left right ≡ neg_ℤ (pos (own - right))
  unfolding crossing
  way_down_only h k full = rw (lt-leb own right h, le-ltb left own k, le-ltb left jam full) refl

  pub way_up_left : right < own → own ≤ left → left < jam → left + 1 - own < own - right → crossing jam own left right ≡ pos (left + 1 - own)
  unfolding crossing
  way_up_left h k room shorter = rw (lt-leb own right h, le-ltb left own k, lt-ltb left jam room, lt-ltb (left + 1 - own) (own - right) shorter) refl

  pub way_down_right : right < own → own ≤ left → left < jam → own - right ≤ left + 1 - own → crossing jam own left right ≡ neg_ℤ (pos (own - right))
  unfolding crossing
  way_down_right h k room longer = rw (lt-leb own right h, le-ltb left own k, lt-ltb left jam room, le-ltb (left + 1 - own) (own - right) longer) refl

-- it is the smallest change of a test that finds the densities apart
module _ (test : ℕ → Bool) (jam own left right : ℕ) (parts : (x : ℕ) → x ≤ jam → test x ≡ apart left right own x)
    (high : own ≤ jam) (order : right ≤ left) (top : left ≤ jam) (low : right < jam) where
  -- a density that a way up of size s comes before: up no nearer, down further
  abbrev Further : ℕ → ℕ → Type 0
  Further s x = (own ≤ x → s ≤ x - own) × (x < own → s < own - x)

  -- the way up across threshold t is no longer than one up across threshold u, and shorter than one down onto it; the way down onto t is no longer than either
  abbrev ShortUp : ℕ → ℕ → Type 0
  ShortUp t u = (own ≤ u → t ≤ u) × (u < own → t + 1 - own < own - u)

  abbrev ShortDown : ℕ → ℕ → Type 0
  ShortDown t u = (own ≤ u → u < jam → own - t ≤ u + 1 - own) × (u < own → u ≤ t)

  further_up : (t u x : ℕ) → own ≤ t → ShortUp t u → parted u own x ≡ true → Further (t + 1 - own) x
  further_up t u x h short =
      parted_ways left right own x {P = Further (t + 1 - own) x} u
      (λ a b. let no_lower = short.0 a in (λ o. omega arith, λ o. omega arith))
      (λ a b. let longer = short.1 a in (λ o. omega arith, λ o. omega arith))

  further_down : (t u x : ℕ) → x ≤ jam → t < own → ShortDown t u → parted u own x ≡ true → own - t ≤ (x - own) + (own - x)
  further_down t u x g h short =
      parted_ways left right own x {P = own - t ≤ (x - own) + (own - x)} u
      (λ a b. let no-shorter = short.0 a (omega arith) in omega arith)
      (λ a b. let no-higher = short.1 a in omega arith)

  -- across one of the two thresholds
  module _ (t : ℕ) (one : (x : ℕ) → parted t own x ≡ true → apart left right own x ≡ true) where
    up_across : own ≤ t → t < jam → ShortUp t left → ShortUp t right → Smallest test jam own (pos (t + 1 - own))
    up_across h room l r =
        smallest_up test jam own (t + 1 - own) (omega arith) (omega arith)
        (parts (own + (t + 1 - own)) (omega arith) ∙ one _ (parted_up left right own _ t h (omega arith)))
        (λ x g e. crossed left right own x (further_up t left x h l) (further_up t right x h r) (sym (parts x g) ∙ e))

    down_across : t < own → ShortDown t left → ShortDown t right → Smallest test jam own (neg_ℤ (pos (own - t)))
    unfolding gap
    down_across h l r =
        smallest_down test jam own (own - t) (omega arith) (omega arith) high
        (parts (own - (own - t)) (omega arith) ∙ one _ (parted_down left right own _ t h (omega arith)))
        (λ x g e. crossed left right own x (further_down t left x g h l) (further_down t right x g h r) (sym (parts x g) ∙ e))

  -- above the right threshold and up to the left one, the way down where the way up is not there or no shorter
  down_right : right < own → own ≤ left → (left < jam → own - right ≤ left + 1 - own) → Smallest test jam own (neg_ℤ (pos (own - right)))
  down_right h k longer =
      down_across right (by_the_right left right own) h (λ a room. longer room, λ a. omega arith) (λ a room. omega arith, λ a. le_refl right)

  pub crossing_smallest : Smallest test jam own (crossing jam own left right)
  crossing_smallest = by_right (dec_le own right)
    where
      by_length : right < own → own ≤ left → left < jam → Dec (own - right ≤ left + 1 - own) → Smallest test jam own (crossing jam own left right)
      by_length h k room (yes longer) = rw (way_down_right jam own left right h k room longer) (down_right h k (λ _. longer))
      by_length h k room (no n) =
          let shorter = lt_of_not-le n in
          rw (way_up_left jam own left right h k room shorter)
          (up_across left (by_the_left left right own) k room (λ a. le_refl left, λ a. omega arith) (λ a. omega arith, λ a. shorter))

      by_room : right < own → own ≤ left → Dec (jam ≤ left) → Smallest test jam own (crossing jam own left right)
      by_room h k (yes full) = rw (way_down_only jam own left right h k full) (down_right h k (λ room. absurd (omega arith)))
      by_room h k (no n) = by_length h k (lt_of_not-le n) (dec_le (own - right) (left + 1 - own))

      by_left : right < own → Dec (own ≤ left) → Smallest test jam own (crossing jam own left right)
      by_left h (yes k) = by_room h k (dec_le jam left)
      by_left h (no n) =
          let k = lt_of_not-le n in
          rw (way_down_left jam own left right h k)
          (down_across left (by_the_left left right own) k (λ a room. omega arith, λ a. le_refl left) (λ a room. omega arith, λ a. order))

      by_right : Dec (own ≤ right) → Smallest test jam own (crossing jam own left right)
      by_right (yes h) =
          rw (way_up_right jam own left right h)
          (up_across right (by_the_right left right own) h low (λ a. order, λ a. omega arith) (λ a. le_refl right, λ a. omega arith))
      by_right (no n) = by_left (lt_of_not-le n) (dec_le own left)

-- a cell of a checked state
module _ (r : Road) (ok : Accepted r) (up down : ℕ) (cells : List ℕ) (i : ℕ) (there : i < length cells)
    (below : Below r.jam cells) where
  abbrev own : ℕ
  own = get_or cells i 0

  abbrev left : ℕ
  left = left_threshold r (behind up cells i)

  abbrev right : ℕ
  right = right_threshold r (beyond down cells i)

  -- the word is altered exactly where a threshold parts the densities
  alters_apart : (x : ℕ) → x ≤ r.jam → alters r up down cells i x ≡ apart left right own x
  unfolding alters
  alters_apart x h =
      ap not (word_local r up down cells i x there
      ∙ ap₂ both (split_parts (left_split r ok (behind up cells i)) own x (below i) h) (split_parts (right_split r ok (beyond down cells i)) own x (below i) h))
      ∙ not_both (parted left own x) (parted right own x)
    where
      not_both : (p q : Bool) → not (both (not p) (not q)) ≡ or p q
      not_both true q = refl
      not_both false true = refl
      not_both false false = refl

  crossed_smallest : Smallest (alters r up down cells i) r.jam own (crossing r.jam own left right)
  crossed_smallest =
      crossing_smallest (alters r up down cells i) r.jam own left right alters_apart (below i)
      (le_trans (right_high r ok (beyond down cells i)) (left_low r ok (behind up cells i))) (left_high r ok (behind up cells i)) (right_below_jam r ok (beyond down cells i))

  -- the own density does not alter the word
  own_keeps : alters r up down cells i own ≡ false
  unfolding alters
  own_keeps =
      ap (λ (same : List ℕ). not (same_list (word_of r up down cells) (word_of r up down same))) (set-get_or cells i 0)
      ∙ ap not (lists_same (word_of r up down cells))

  -- "Such a change exists for every cell, which is to be proved": the search finds it, and it is the smallest
  pub change_smallest : Smallest (alters r up down cells i) r.jam own (change r up down cells i)
  unfolding change
  change_smallest =
      search_smallest (alters r up down cells i) r.jam own (below i) own_keeps
      crossed_smallest.density crossed_smallest.within crossed_smallest.found

  -- and the code's way across is the search's change
  pub change_is : crossing r.jam own left right ≡ change r up down cells i
  change_is = smallest_once (alters r up down cells i) r.jam own crossed_smallest change_smallest

  -- which is no larger than jam
  pub change_small : nat_abs (change r up down cells i) ≤ r.jam
  change_small = smallest_small (alters r up down cells i) r.jam own change_smallest (below i)
