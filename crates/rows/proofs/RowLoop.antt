-- The rows, midway: the output's first i places hold the numerators of the first i cells.
use mathlib.Core.Path.{◌≡◌, ◌∙◌, refl, sym, ap, ap₂}
use mathlib.Core.List.{List, ◌∷◌, ◌++◌, append-nil}
use Prim.Native.Nat.{ℕ, suc, ◌+◌, ◌≤◌, ◌<◌}
use native.Mathlib.Numerals.{add-one}
use native.Mathlib.Omega.{arith}
use lib.IntN.{ℤ}
use lib.ListN.{length, get_or, take, drop, set, length-set, drop_of_length-le}
use lib.Seq.{drop-cons, take-suc-set, take_all, append_snoc}
use Rattle.road.specs.declared.Road.{Road}
use Rattle.scheme.specs.Advance.{ahead}
use Rattle.modes.specs.Modes.{mode_of}
use Rattle.rows.specs.Rows.{row_value, row_numerators}

pub record RowsWritten (r : Road) (up down : ℕ) (word cells : List ℕ) (out : List ℤ) (left i : ℕ) : Type 0 where
  pub long : length out ≡ length cells
  pub low : left ≤ r.jam
  pub rows : take i out ++ row_numerators r left down (drop i word) (drop i cells) ≡ row_numerators r up down word cells

module _ (r : Road) (up down : ℕ) (word cells : List ℕ) where
  pub begins : (out : List ℤ) → length out ≡ length cells → up ≤ r.jam → RowsWritten r up down word cells out up 0
  begins out e h = record { long = e; low = h; rows = refl }

  -- the next row, of the letters and the cell at i
  next : (left i : ℕ) → suc i < length word → i < length cells
      → row_numerators r left down (drop i word) (drop i cells)
      ≡ row_value r (mode_of (get_or word i 0) (get_or word (suc i) 0)) left (get_or cells i 0) (ahead down (drop (suc i) cells))
      ∷ row_numerators r (get_or cells i 0) down (drop (suc i) word) (drop (suc i) cells)
  unfolding row_numerators
  next left i h g =
      let first = drop-cons word i 0 (omega arith) in
      let second = drop-cons word (suc i) 0 h in
      ap₂ (row_numerators r left down) (first ∙ ap (λ (l : List ℕ). get_or word i 0 ∷ l) second) (drop-cons cells i 0 g)
      ∙ ap (λ (l : List ℕ). row_value r (mode_of (get_or word i 0) (get_or word (suc i) 0)) left (get_or cells i 0) (ahead down (drop (suc i) cells))
      ∷ row_numerators r (get_or cells i 0) down l (drop (suc i) cells)) (sym second)

  module _ (long : length word ≡ length cells + 1) (out : List ℤ) (left i : ℕ) (now : RowsWritten r up down word cells out left i) where
    turn : (v : ℤ) → i < length cells → get_or cells i 0 ≤ r.jam
        → v ≡ row_value r (mode_of (get_or word i 0) (get_or word (suc i) 0)) left (get_or cells i 0) (ahead down (drop (suc i) cells))
        → RowsWritten r up down word cells (set out i v) (get_or cells i 0) (suc i)
    turn v h high e =
        let l = now.long in
        record {
          long = length-set out i v ∙ now.long;
          low = high;
          rows =
              rw (take-suc-set out i v (omega arith), append_snoc)
              (ap (λ (x : ℤ). take i out ++ x ∷ row_numerators r (get_or cells i 0) down (drop (suc i) word) (drop (suc i) cells)) e
              ∙ ap (λ (z : List ℤ). take i out ++ z) (sym (next left i (omega arith) h))
              ∙ now.rows);
        }

    -- the same, with the index as the code has it
    pub turns : (v : ℤ) → i < length cells → get_or cells i 0 ≤ r.jam
        → v ≡ row_value r (mode_of (get_or word i 0) (get_or word (i + 1) 0)) left (get_or cells i 0) (ahead down (drop (i + 1) cells))
        → RowsWritten r up down word cells (set out i v) (get_or cells i 0) (i + 1)
    turns = rw (add-one i) turn

    pub ends : length cells ≤ i → out ≡ row_numerators r up down word cells
    unfolding row_numerators
    ends h =
        let l = now.long in
        rw (take_all i out (omega arith), drop_of_length-le cells h, append-nil) at now.rows
