-- The candidate row in whole numbers: how large its numbers are, how the code reaches them, and that they split a row's value.
use mathlib.Core.Path.{◌≡◌, refl, ap, ap₂, sym, ◌∙◌}
use mathlib.Core.Bool.{true, false}
use mathlib.Core.List.{List}
use Prim.Native.Nat.{ℕ, suc, ◌+◌, ◌-◌, ◌*◌, ◌≤◌, ◌<◌}
use native.Mathlib.Nat.{le_refl, le_of_lt, le_trans, mul_assoc, mul_comm, mul-le-mul}
use native.Mathlib.Omega.{arith}
use lib.Dec.{lit<, lit≤}
use lib.IntN.{ℤ, pos, negsuc, neg_ℤ, ◌+ℤ◌, ◌*ℤ◌, nat_abs, +ℤ_assoc, +ℤ_comm, *ℤ_comm}
use mir.Syntax.{w64}
use mir.Val.{SFits, to_z, of_z}
use Rattle.road.specs.Ceilings.{divisor_ceiling, jam_ceiling}
use Rattle.road.specs.Judgement.{Accepted}
use Rattle.road.specs.declared.Road.{Road}
use lib.ListN.{get_or}
use Rattle.floats.proofs.Signs.{signed_mul}
use Rattle.rows.specs.Rows.{row_of, terms, row_value}
use Rattle.rows.specs.Coefficients.{entry, left_coefficient, own_coefficient, right_coefficient, constant_of, whole_row_of, whole_rows, applied_to, Sized}
use Rattle.rows.specs.declared.numerators.WholeRow.{WholeRow}
use Rattle.floats.proofs.Signs.{nat_abs_add, nat_abs_mul}
use Rattle.rows.proofs.Integers.{+ℤ-times}
use Rattle.modes.specs.Codes.{code_of}
use Rattle.modes.specs.declared.mode.Mode.{Mode}
use Rattle.modes.specs.declared.mode.Mode.TheVariants.{WW, WL, LW, LD, DW, DL, DD}
use Rattle.modes.proofs.ModeRange.{code_range}
use Rattle.rows.proofs.Table.{entry_small}
use Rattle.rows.proofs.Sizes.{largest, sum_to, sum_row, fits, exact_in_i64, pos_exact_in_i64, entry_times, free_small, wave_small, row_small}

-- a term as the code has it, by the natural that it is shown to be
pub asked : {t : ℤ} {n : ℕ} → t ≡ pos n → n ≤ largest → nat_abs t ≤ largest
asked e h = rw e h

three_small : (a b c : ℤ) → nat_abs (a +ℤ b +ℤ c) ≤ nat_abs a + nat_abs b + nat_abs c
three_small a b c = omega (arith, nat_abs_add a b, nat_abs_add (a +ℤ b) c)

-- three numbers as the code has them, added from left to right: both sums fit, and the last is read back
module _ {x y z a b c : ℤ} (e : x ≡ a) (q : y ≡ b) (s : z ≡ c) (h : nat_abs a + nat_abs b + nat_abs c ≤ 8 * largest) where
  two_small : nat_abs (a +ℤ b) ≤ 8 * largest
  two_small = omega (arith, nat_abs_add a b, h)

  all_small : nat_abs (a +ℤ b +ℤ c) ≤ 8 * largest
  all_small = le_trans (three_small a b c) h

  all_three : to_z w64 (of_z w64 (x +ℤ y)) +ℤ z ≡ a +ℤ b +ℤ c
  all_three = ap₂ ◌+ℤ◌ (exact_in_i64 (ap₂ ◌+ℤ◌ e q) two_small) s

  pub first_fits : SFits w64 (x +ℤ y)
  first_fits = fits (ap₂ ◌+ℤ◌ e q) two_small

  pub both_fit : SFits w64 (to_z w64 (of_z w64 (x +ℤ y)) +ℤ z)
  both_fit = fits all_three all_small

  pub three_exact : to_z w64 (of_z w64 (to_z w64 (of_z w64 (x +ℤ y)) +ℤ z)) ≡ a +ℤ b +ℤ c
  three_exact = exact_in_i64 all_three all_small

module _ (mode : ℕ) (low : 1 ≤ mode) (high : mode ≤ 7) where
  pub part_small : (k n : ℕ) → k < 7 → nat_abs (entry mode k *ℤ pos n) ≤ n
  part_small k n h = entry_times mode k low high h (pos n)

  -- a weighted term as the code reads it back
  pub part_exact : {z t : ℤ} (k n : ℕ) → k < 7 → n ≤ largest → t ≡ pos n → z ≡ entry mode k *ℤ t
      → to_z w64 (of_z w64 z) ≡ entry mode k *ℤ pos n
  part_exact k n h small e q = exact_in_i64 (q ∙ ap (λ x. entry mode k *ℤ x) e) (le_trans (part_small k n h) (le_trans small (lit≤ tt)))

  module _ (r : Road) (ok : Accepted r) where
    pub left_small : nat_abs (left_coefficient r mode) ≤ divisor_ceiling
    unfolding left_coefficient
    left_small = let b = part_small 0 r.free (lit< tt) in omega arith

    pub right_small : nat_abs (right_coefficient r mode) ≤ divisor_ceiling
    unfolding right_coefficient
    right_small = let b = part_small 3 r.wave (lit< tt) in omega arith

    pub own_sizes : nat_abs (pos r.divisor) + nat_abs (entry mode 1 *ℤ pos r.free) + nat_abs (entry mode 2 *ℤ pos r.wave) ≤ 3 * divisor_ceiling
    own_sizes =
        let a = part_small 1 r.free (lit< tt) in
        let b = part_small 2 r.wave (lit< tt) in
        omega arith

    pub own_small : nat_abs (own_coefficient r mode) ≤ 3 * divisor_ceiling
    unfolding own_coefficient
    own_small = le_trans (three_small (pos r.divisor) (entry mode 1 *ℤ pos r.free) (entry mode 2 *ℤ pos r.wave)) own_sizes

    -- the constant's three terms
    pub critical_wave : r.wave * r.critical ≤ largest
    critical_wave = wave_small r ok r.critical (le_of_lt ok.critical_high)

    pub critical_free : r.free * r.critical ≤ largest
    critical_free = free_small r ok r.critical (le_of_lt ok.critical_high)

    pub jam_wave : r.wave * r.jam ≤ largest
    jam_wave = wave_small r ok r.jam (le_refl r.jam)

    pub constant_sizes : nat_abs (entry mode 4 *ℤ pos (r.wave * r.critical)) + nat_abs (entry mode 5 *ℤ pos (r.free * r.critical))
        + nat_abs (entry mode 6 *ℤ pos (r.wave * r.jam)) ≤ 3 * largest
    constant_sizes =
        let a = le_trans (part_small 4 (r.wave * r.critical) (lit< tt)) critical_wave in
        let b = le_trans (part_small 5 (r.free * r.critical) (lit< tt)) critical_free in
        let d = le_trans (part_small 6 (r.wave * r.jam) (lit< tt)) jam_wave in
        omega arith

    pub constant_small : nat_abs (constant_of r mode) ≤ 3 * largest
    unfolding constant_of
    constant_small =
        le_trans
        (three_small (entry mode 4 *ℤ pos (r.wave * r.critical)) (entry mode 5 *ℤ pos (r.free * r.critical)) (entry mode 6 *ℤ pos (r.wave * r.jam)))
        constant_sizes

    pub sized : Sized (whole_row_of r mode)
    unfolding whole_row_of
    sized = record { left_small = left_small; own_small = own_small; right_small = right_small; constant_small = constant_small }

-- a mode's row of the table, as the code reads it: its multipliers, and a weighted term
module _ (m : Mode) {ms : List ℤ} (e : ms ≡ row_of (code_of m)) where
  multiplier_read : (k : ℕ) → k < 7 → to_z w64 (of_z w64 (get_or ms k (pos 0))) ≡ entry (code_of m) k
  multiplier_read k h =
      let (low, high) = code_range m in
      exact_in_i64 (ap (λ (l : List ℤ). get_or l k (pos 0)) e) (le_trans (entry_small (code_of m) k low high h) (lit≤ tt))

  pub multiplier_small : (k : ℕ) → k < 7 → nat_abs (to_z w64 (of_z w64 (get_or ms k (pos 0)))) ≤ 1
  multiplier_small k h = let (low, high) = code_range m in rw (multiplier_read k h) (entry_small (code_of m) k low high h)

  pub weighted_part : {z t : ℤ} (k n : ℕ) → k < 7 → n ≤ largest → t ≡ pos n → z ≡ to_z w64 (of_z w64 (get_or ms k (pos 0))) *ℤ t
      → to_z w64 (of_z w64 z) ≡ entry (code_of m) k *ℤ pos n
  weighted_part {t = t} k n h small q s =
      let (low, high) = code_range m in
      part_exact (code_of m) low high k n h small q (s ∙ ap (λ (x : ℤ). x *ℤ t) (multiplier_read k h))

-- a density times a coefficient, as the code has them
module _ {n : ℕ} (k : ℤ) {bound : ℕ} (h : n ≤ jam_ceiling) (g : nat_abs k ≤ bound) (few : bound ≤ 3 * divisor_ceiling) where
  pub times_small : nat_abs (pos n *ℤ k) ≤ jam_ceiling * bound
  times_small = rw nat_abs_mul (mul-le-mul h g)

  same_times : to_z w64 n *ℤ to_z w64 (of_z w64 k) ≡ pos n *ℤ k
  same_times = ap₂ ◌*ℤ◌ (pos_exact_in_i64 n (le_trans h (lit≤ tt))) (exact_in_i64 {z = k} {w = k} refl (le_trans g (le_trans few (lit≤ tt))))

  fitting : nat_abs (pos n *ℤ k) ≤ 8 * largest
  fitting = le_trans times_small (le_trans (mul-le-mul (le_refl jam_ceiling) few) (lit≤ tt))

  pub times_fits : SFits w64 (to_z w64 n *ℤ to_z w64 (of_z w64 k))
  times_fits = fits same_times fitting

  pub times_exact : to_z w64 (of_z w64 (to_z w64 n *ℤ to_z w64 (of_z w64 k))) ≡ pos n *ℤ k
  times_exact = exact_in_i64 same_times fitting

-- a row applied: every product and every sum fits, and the last is read back
module _ (row : WholeRow) (small : Sized row) (left own right : ℕ) (l : left ≤ jam_ceiling) (o : own ≤ jam_ceiling) (t : right ≤ jam_ceiling) where
  parts : nat_abs (pos left *ℤ row.left) + nat_abs (pos own *ℤ row.own) + nat_abs (pos right *ℤ row.right) + nat_abs row.constant ≤ 8 * largest
  parts =
      let a : nat_abs (pos left *ℤ row.left) ≤ largest = le_trans (times_small row.left l small.left_small (lit≤ tt)) (lit≤ tt) in
      let b : nat_abs (pos own *ℤ row.own) ≤ 3 * largest = le_trans (times_small row.own o small.own_small (lit≤ tt)) (lit≤ tt) in
      let c : nat_abs (pos right *ℤ row.right) ≤ largest = le_trans (times_small row.right t small.right_small (lit≤ tt)) (lit≤ tt) in
      let d = small.constant_small in
      omega arith

  first_three : nat_abs (pos left *ℤ row.left) + nat_abs (pos own *ℤ row.own) + nat_abs (pos right *ℤ row.right) ≤ 8 * largest
  first_three = omega (arith, parts)

  pub applied_small : nat_abs (applied_to row left own right) ≤ 8 * largest
  unfolding applied_to
  applied_small =
      omega (
        arith,
        parts,
        three_small (pos left *ℤ row.left) (pos own *ℤ row.own) (pos right *ℤ row.right),
        nat_abs_add (pos left *ℤ row.left +ℤ pos own *ℤ row.own +ℤ pos right *ℤ row.right) row.constant,
      )

  module _ {x y z w : ℤ} (e : x ≡ pos left *ℤ row.left) (q : y ≡ pos own *ℤ row.own) (s : z ≡ pos right *ℤ row.right) (u : w ≡ row.constant) where
    all_four : to_z w64 (of_z w64 (to_z w64 (of_z w64 (x +ℤ y)) +ℤ z)) +ℤ w ≡ applied_to row left own right
    unfolding applied_to
    all_four = ap₂ ◌+ℤ◌ (three_exact e q s first_three) u

    pub add_first : SFits w64 (x +ℤ y)
    add_first = first_fits e q s first_three

    pub add_second : SFits w64 (to_z w64 (of_z w64 (x +ℤ y)) +ℤ z)
    add_second = both_fit e q s first_three

    pub add_third : SFits w64 (to_z w64 (of_z w64 (to_z w64 (of_z w64 (x +ℤ y)) +ℤ z)) +ℤ w)
    add_third = fits all_four applied_small

    pub applied_exact : to_z w64 (of_z w64 (to_z w64 (of_z w64 (to_z w64 (of_z w64 (x +ℤ y)) +ℤ z)) +ℤ w)) ≡ applied_to row left own right
    applied_exact = exact_in_i64 all_four applied_small

-- a multiplier times a speed times a density, the density taken out
taken_out : (k : ℤ) (speed x : ℕ) → k *ℤ pos (speed * x) ≡ pos x *ℤ (k *ℤ pos speed)
taken_out (pos a) speed x = ap pos (sym (mul_assoc a speed x) ∙ mul_comm (a * speed) x)
taken_out (negsuc a) speed x =
    ap (λ n. neg_ℤ (pos n)) (sym (mul_assoc (suc a) speed x) ∙ mul_comm (suc a * speed) x) ∙ signed_mul false true x (suc a * speed)

-- a number times a sum of three
times_three : (x a b c : ℤ) → x *ℤ (a +ℤ b +ℤ c) ≡ x *ℤ a +ℤ x *ℤ b +ℤ x *ℤ c
times_three x a b c =
    *ℤ_comm x (a +ℤ b +ℤ c)
    ∙ +ℤ-times (a +ℤ b) c x
    ∙ ap₂ ◌+ℤ◌ (+ℤ-times a b x ∙ ap₂ ◌+ℤ◌ (*ℤ_comm a x) (*ℤ_comm b x)) (*ℤ_comm c x)

regroup : (s a b c d e f g : ℤ) → s +ℤ a +ℤ b +ℤ c +ℤ d +ℤ e +ℤ f +ℤ g ≡ a +ℤ (s +ℤ b +ℤ c) +ℤ d +ℤ (e +ℤ f +ℤ g)
regroup s a b c d e f g = rw (+ℤ_comm s a) (simp +ℤ_assoc)

-- a row's value is its three coefficients times the densities, plus its constant
pub row_split : (r : Road) → Accepted r → (mode : ℕ) → 1 ≤ mode → mode ≤ 7 → (left own right : ℕ)
    → left ≤ r.jam → own ≤ r.jam → right ≤ r.jam
    → row_value r mode left own right
    ≡ pos left *ℤ left_coefficient r mode +ℤ pos own *ℤ own_coefficient r mode +ℤ pos right *ℤ right_coefficient r mode +ℤ constant_of r mode
unfolding sum_to terms left_coefficient own_coefficient right_coefficient constant_of
row_split r ok mode low high left own right l o t =
    sym (sum_row r ok left own right l o t mode low high)
    ∙ regroup (pos (r.divisor * own)) (entry mode 0 *ℤ pos (r.free * left)) (entry mode 1 *ℤ pos (r.free * own))
    (entry mode 2 *ℤ pos (r.wave * own)) (entry mode 3 *ℤ pos (r.wave * right)) (entry mode 4 *ℤ pos (r.wave * r.critical))
    (entry mode 5 *ℤ pos (r.free * r.critical)) (entry mode 6 *ℤ pos (r.wave * r.jam))
    ∙ ap₂ ◌+ℤ◌
    (ap₂ ◌+ℤ◌
    (ap₂ ◌+ℤ◌ (taken_out (entry mode 0) r.free left) own_column)
    (taken_out (entry mode 3) r.wave right))
    refl
  where
    own_column : pos (r.divisor * own) +ℤ entry mode 1 *ℤ pos (r.free * own) +ℤ entry mode 2 *ℤ pos (r.wave * own)
        ≡ pos own *ℤ (pos r.divisor +ℤ entry mode 1 *ℤ pos r.free +ℤ entry mode 2 *ℤ pos r.wave)
    own_column =
        ap₂ ◌+ℤ◌
        (ap₂ ◌+ℤ◌ (ap pos (mul_comm r.divisor own)) (taken_out (entry mode 1) r.free own))
        (taken_out (entry mode 2) r.wave own)
        ∙ sym (times_three (pos own) (pos r.divisor) (entry mode 1 *ℤ pos r.free) (entry mode 2 *ℤ pos r.wave))

-- a row that the code reads in the list of all rows, at its mode's place
module _ (r : Road) (ok : Accepted r) {rows : List WholeRow} (e : rows ≡ whole_rows r) (d : WholeRow) (m : Mode) {place : ℕ} (at : place ≡ code_of m - 1) where
  row_read : get_or rows place d ≡ whole_row_of r (code_of m)
  unfolding whole_rows
  row_read = ap₂ (λ (l : List WholeRow) (i : ℕ). get_or l i d) e at ∙ in_all m
    where
      in_all : (m : Mode) → get_or (whole_rows r) (code_of m - 1) d ≡ whole_row_of r (code_of m)
      in_all WW = refl
      in_all WL = refl
      in_all LW = refl
      in_all LD = refl
      in_all DW = refl
      in_all DL = refl
      in_all DD = refl

  pub read_sized : Sized (get_or rows place d)
  read_sized = let (low, high) = code_range m in rw row_read (sized (code_of m) low high r ok)

  pub read_applied : (left own right : ℕ) → left ≤ r.jam → own ≤ r.jam → right ≤ r.jam
      → applied_to (get_or rows place d) left own right ≡ row_value r (code_of m) left own right
  unfolding whole_row_of applied_to
  read_applied left own right l o t =
      let (low, high) = code_range m in
      ap (λ (row : WholeRow). applied_to row left own right) row_read ∙ sym (row_split r ok (code_of m) low high left own right l o t)

  -- the value, as it is read back to be written
  pub read_value : (left own right : ℕ) → left ≤ r.jam → own ≤ r.jam → right ≤ r.jam → {z : ℤ}
      → z ≡ applied_to (get_or rows place d) left own right → to_z w64 (of_z w64 z) ≡ row_value r (code_of m) left own right
  read_value left own right l o t e =
      let (low, high) = code_range m in
      exact_in_i64 (e ∙ read_applied left own right l o t) (row_small r ok left own right l o t (code_of m) low high)
