-- With the state's own letters a row is the exact step, where the caps leave its cell alone, and D times the rounded density differs from it by less than D.
use mathlib.Core.Path.{◌≡◌, refl, ap, ap₂, sym, ◌∙◌}
use mathlib.Core.Bool.{false}
use mathlib.Core.List.{List, [], ◌∷◌, map}
use Prim.Native.Nat.{ℕ, zero, suc, ◌+◌, ◌-◌, ◌*◌, ◌≤◌, ◌<◌}
use native.Mathlib.Nat.{zero-mul, one-mul, zero-add, add-zero, mul-sub, mul-le-mul_left, min-eq_left}
use native.Mathlib.Numerals.{add-one}
use native.Mathlib.Omega.{arith}
use lib.IntN.{ℤ, pos, ◌+ℤ◌, ◌-ℤ◌, neg_ℤ, nat_abs, +ℤ_idl, +ℤ_idr, +ℤ_assoc, +ℤ_comm}
use lib.ListN.{length, get_or, get_or-map}
use lib.Seq.{ext_get_or}
use borrow.Author.Tests.{le-ltb}
use Rattle.road.specs.Judgement.{Accepted}
use Rattle.road.specs.declared.Road.{Road}
use Rattle.flux.specs.Face.{numerator, letter_w, letter_l, letter_d, letter}
use Rattle.flux.proofs.Laws.{numerator_law, capped_law, accepted_sound}
use Rattle.flux.proofs.Letters.{one_letter, published}
use Rattle.scheme.specs.Advance.{ahead, advance, entering, stepped}
use Rattle.scheme.specs.Exact.{exact_step}
use Rattle.scheme.specs.Rounded.{open_caps, round_step}
use Rattle.scheme.specs.ByFaces.{numerator_over}
use Rattle.scheme.specs.Sums.{gap, Below}
use Rattle.scheme.specs.Word.{word_of}
use Rattle.scheme.proofs.Ahead.{ahead_below}
use Rattle.scheme.proofs.Shape.{stepped_length}
use Rattle.scheme.proofs.Faces.{same_cell}
use Rattle.scheme.proofs.Laws.{exact_step_one}
use Rattle.scheme.proofs.Open.{padded_below, open_exceeds}
use Rattle.scheme.proofs.Promises.{round_near_cell}
use Rattle.words.specs.Words.{illegal_pair, offends}
use Rattle.modes.specs.Modes.{mode_of}
use Rattle.rows.specs.Rows.{left_flow, right_flow, terms, dot, row_value, row_numerators}
use Rattle.rows.specs.Prediction.{Uncapped}
use Rattle.words.proofs.Legal.{neighbours}
use Rattle.floats.proofs.Signs.{pos_minus, nat_abs_minus}
use Rattle.rows.proofs.Table.{row_rule}

-- columns whose multiplier is 0 or 1
ruleset columns = (zero-mul, one-mul, zero-add, add-zero, +ℤ_idl, +ℤ_idr)

-- the flow without caps: the flow numerator over every face
abbrev plain_flow : Road → ℕ → ℕ → ℕ → ℕ
plain_flow r face a b = numerator r a b

module _ (r : Road) (ok : Accepted r) where
  -- a flow that is the published one at each letter is, at a face's own letter, its flow numerator
  own_flow : (a b : ℕ) → b ≤ r.jam → (flow : ℕ → ℤ) → flow letter_w ≡ neg_ℤ (pos (r.wave * b)) +ℤ pos (r.wave * r.jam)
      → flow letter_l ≡ pos (r.free * r.critical) → flow letter_d ≡ pos (r.free * a) → flow (letter r a b) ≡ pos (numerator r a b)
  own_flow a b h flow w l d = by_letter (letter r a b) (one_letter r ok a b).known refl
    where
      by_letter : (s : ℕ) → s ≤ letter_d → letter r a b ≡ s → flow s ≡ pos (numerator r a b)
      by_letter zero k e =
          rw ((published r ok a b).W e, mul-sub, w, +ℤ_comm) (pos_minus (mul-le-mul_left r.wave h))
      by_letter (suc zero) k e = l ∙ ap pos (sym ((published r ok a b).L e))
      by_letter (suc (suc zero)) k e = d ∙ ap pos (sym ((published r ok a b).D e))
      by_letter (suc (suc (suc s))) k e = absurd (omega arith)

  -- so are the two faces' columns
  left_own : (left own right : ℕ) → own ≤ r.jam
      → dot (left_flow (letter r left own)) (terms r left own right) ≡ pos (numerator r left own)
  unfolding left_flow terms dot
  left_own left own right h =
      own_flow left own h (λ s. dot (left_flow s) (terms r left own right)) (simp columns) (simp columns) (simp columns)

  right_own : (left own right : ℕ) → right ≤ r.jam
      → dot (right_flow (letter r own right)) (terms r left own right) ≡ pos (numerator r own right)
  unfolding right_flow terms dot
  right_own left own right h =
      own_flow own right h (λ s. dot (right_flow s) (terms r left own right)) (simp columns) (simp columns) (simp columns)

  legal_pair : (a b c : ℕ) → illegal_pair (letter r a b) (letter r b c) ≡ false
  unfolding offends
  legal_pair a b c = rw (le-ltb _ _ (one_letter r ok b c).known) at (neighbours r ok a b c)

  -- a cell, with its two faces' own letters
  module _ (left own right : ℕ) (own-high : own ≤ r.jam) (right_high : right ≤ r.jam) where
    row_value_is : row_value r (mode_of (letter r left own) (letter r own right)) left own right
        ≡ pos (r.divisor * own + numerator r left own) -ℤ pos (numerator r own right)
    unfolding row_value
    row_value_is =
        let known = (one_letter r ok left own).known in
        let other = (one_letter r ok own right).known in
        let rule = row_rule (letter r left own) (letter r own right) known other (legal_pair left own right) r ok left own right in
        rw (rule, left_own left own right own-high, right_own left own right right_high)
        (sym (+ℤ_assoc (pos (r.divisor * own)) (pos (numerator r left own)) (neg_ℤ (pos (numerator r own right)))))

    -- so it is the exact step, and no difference is cut off at 0
    pub row_exact : row_value r (mode_of (letter r left own) (letter r own right)) left own right
        ≡ pos (r.divisor * own + numerator r left own - numerator r own right)
    row_exact =
        let sent = (numerator_law r (accepted_sound ok)).send own right in
        row_value_is ∙ pos_minus (omega arith)

  -- along a list of cells
  rows_cons : (left down x : ℕ) (xs : List ℕ) → row_numerators r left down (word_of r left down (x ∷ xs)) (x ∷ xs)
      ≡ row_value r (mode_of (letter r left x) (letter r x (ahead down xs))) left x (ahead down xs)
      ∷ row_numerators r x down (word_of r x down xs) xs
  unfolding row_numerators word_of ahead
  rows_cons left down x [] = refl
  rows_cons left down x (y ∷ ys) = refl

  rows_advance : (i left down : ℕ) (xs : List ℕ) → down ≤ r.jam → Below r.jam xs
      → row_numerators r left down (word_of r left down xs) xs
      ≡ map pos (advance r.divisor (plain_flow r) i (numerator r left (ahead down xs)) down xs)
  unfolding row_numerators advance ahead
  rows_advance i left down [] g h = refl
  rows_advance i left down (x ∷ xs) g h =
      let ahead-high = ahead_below r.jam down 0 xs (λ k. h (suc k)) g in
      rows_cons left down x xs
      ∙ ap₂ ◌∷◌ (row_exact left x (ahead down xs) (h 0) ahead-high) (rows_advance (suc i) x down xs g (λ k. h (suc k)))

  -- a state's own word gives the exact step of the flow without caps
  rows_exact : (up down : ℕ) (xs : List ℕ) → down ≤ r.jam → Below r.jam xs
      → row_numerators r up down (word_of r up down xs) xs ≡ map pos (stepped r.divisor (plain_flow r) up down xs)
  unfolding stepped entering
  rows_exact up down xs g h = rows_advance 1 up down xs g h

  module _ (up down : ℕ) (xs : List ℕ) (up_high : up ≤ r.jam) (down_high : down ≤ r.jam) (below : Below r.jam xs) where
    abbrev rows : List ℤ
    rows = row_numerators r up down (word_of r up down xs) xs

    -- a cell whose faces the caps leave alone is that of the flow without caps
    uncapped_cell : (caps : List ℕ) (k : ℕ) → k < length xs → Uncapped r caps up down xs k
        → get_or (exact_step r caps 1 up down xs) k 0 ≡ get_or (stepped r.divisor (plain_flow r) up down xs) k 0
    unfolding numerator_over
    uncapped_cell caps k h free =
        let law = numerator_law r (accepted_sound ok) in
        rw exact_step_one
        (same_cell (λ i. capped_law law (get_or caps i 0 * r.divisor)) (λ i. law) up down xs k h
        (min-eq_left (rw (add-one k) at free.left)) (min-eq_left (rw (add-one k, add-one (suc k)) at free.right)))

    pub row_uncapped : (caps : List ℕ) (k : ℕ) → k < length xs → Uncapped r caps up down xs k → get_or rows k (pos 0) ≡ pos (get_or (exact_step r caps 1 up down xs) k 0)
    row_uncapped caps k h free =
        ap (λ (ys : List ℤ). get_or ys k (pos 0)) (rows_exact up down xs down_high below)
        ∙ get_or-map pos (stepped r.divisor (plain_flow r) up down xs) k 0
        ∙ ap pos (sym (uncapped_cell caps k h free))

    -- and D times a rounded new density differs from its row's value by less than D
    near_of : (caps : List ℕ) (k : ℕ) → get_or rows k (pos 0) ≡ pos (get_or (exact_step r caps 1 up down xs) k 0)
        → nat_abs (pos (r.divisor * get_or (round_step r caps up down xs) k 0) -ℤ get_or rows k (pos 0)) < r.divisor
    unfolding gap
    near_of caps k e = rw (e, nat_abs_minus) (round_near_cell r caps ok up down xs k)

    pub row_near : (caps : List ℕ) (k : ℕ) → k < length xs → Uncapped r caps up down xs k
        → nat_abs (pos (r.divisor * get_or (round_step r caps up down xs) k 0) -ℤ get_or rows k (pos 0)) < r.divisor
    row_near caps k h free = near_of caps k (row_uncapped caps k h free)

    -- open caps leave every cell alone
    open_leaves : (k : ℕ) → k < length xs → Uncapped r (open_caps (length xs)) up down xs k
    unfolding numerator_over
    open_leaves k h =
        let within = padded_below xs up_high down_high below in
        record { left = open_exceeds r ok (length xs) k _ _ (omega arith) (within k); right = open_exceeds r ok (length xs) (k + 1) _ _ (omega arith) (within (k + 1)) }

    -- so that the exact step under them is that of the flow without caps
    open_step : exact_step r (open_caps (length xs)) 1 up down xs ≡ stepped r.divisor (plain_flow r) up down xs
    open_step =
        ext_get_or 0 (exact_step r (open_caps (length xs)) 1 up down xs) (stepped r.divisor (plain_flow r) up down xs) (simp stepped_length)
        (λ k h. let inside : k < length xs = rw stepped_length at h in uncapped_cell (open_caps (length xs)) k inside (open_leaves k inside))

    pub rows_open : rows ≡ map pos (exact_step r (open_caps (length xs)) 1 up down xs)
    rows_open = rows_exact up down xs down_high below ∙ ap (map pos) (sym open_step)

    pub rows_open_near : (k : ℕ) → nat_abs (pos (r.divisor * get_or (round_step r (open_caps (length xs)) up down xs) k 0) -ℤ get_or rows k (pos 0)) < r.divisor
    rows_open_near k =
        near_of (open_caps (length xs)) k (ap (λ (ys : List ℤ). get_or ys k (pos 0)) rows_open ∙ get_or-map pos (exact_step r (open_caps (length xs)) 1 up down xs) k 0)
