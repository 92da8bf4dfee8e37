-- Sizes: on an accepted road every product and every partial sum of a row fits a signed 64-bit number.
use mathlib.Core.Path.{◌≡◌, refl, ap, sym, ◌∙◌}
use mathlib.Core.List.{List, [], ◌∷◌}
use Prim.Native.Nat.{ℕ, zero, suc, ◌*◌, ◌≤◌, ◌<◌, zero-le}
use native.Mathlib.Nat.{le_refl, le_of_lt, le_trans, lt_of_le_of_lt, mul-le-mul, one-mul, suc-mul, suc_inj}
use native.Mathlib.Omega.{arith}
use lib.Dec.{lit<, lit≤}
use lib.IntN.{ℤ, pos, negsuc, ◌+ℤ◌, ◌*ℤ◌, nat_abs, +ℤ_idr, +ℤ_assoc}
use lib.ListN.{length, get_or}
use lib.Signed.{mag}
use mir.Syntax.{w64}
use mir.Val.{SFits, to_z, of_z}
use mir.Facts.{to_z-of_z, to_z_pos}
use Rattle.road.specs.Ceilings.{divisor_ceiling, jam_ceiling}
use Rattle.road.specs.Judgement.{Accepted}
use Rattle.road.specs.declared.Road.{Road}
use Rattle.rows.specs.Rows.{row_of, terms, dot, row_value}
use Rattle.floats.proofs.Signs.{nat_abs_add, nat_abs_mul}
use Rattle.rows.proofs.Table.{entry_small, row_length}

-- a start plus the first k of the multipliers times their terms, from left to right
unfoldable pub sum_to : ℤ → List ℤ → List ℤ → ℕ → ℤ
sum_to start ks ts zero = start
sum_to start ks ts (suc k) = sum_to start ks ts k +ℤ get_or ks k (pos 0) *ℤ get_or ts k (pos 0)

-- over all columns it is the start plus the whole sum
sum_to_cons : (start k t : ℤ) (ks ts : List ℤ) (n : ℕ) → sum_to start (k ∷ ks) (t ∷ ts) (suc n) ≡ sum_to (start +ℤ k *ℤ t) ks ts n
unfolding sum_to
sum_to_cons start k t ks ts zero = refl
sum_to_cons start k t ks ts (suc n) = ap (λ x. x +ℤ get_or ks n (pos 0) *ℤ get_or ts n (pos 0)) (sum_to_cons start k t ks ts n)

sum_to_all : (start : ℤ) (ks ts : List ℤ) → length ks ≡ length ts → sum_to start ks ts (length ks) ≡ start +ℤ dot ks ts
unfolding sum_to dot
sum_to_all start [] ts e = sym (+ℤ_idr start)
sum_to_all start (k ∷ ks) [] e = absurd (omega arith)
sum_to_all start (k ∷ ks) (t ∷ ts) e =
    sum_to_cons start k t ks ts (length ks) ∙ sum_to_all (start +ℤ k *ℤ t) ks ts (suc_inj e) ∙ +ℤ_assoc start (k *ℤ t) (dot ks ts)

-- where no part is larger than m, the start and k parts are at most k + 1 times m
sum_to_small : (m : ℕ) (start : ℤ) (ks ts : List ℤ) (n : ℕ) → nat_abs start ≤ m
    → ((i : ℕ) → i < n → nat_abs (get_or ks i (pos 0) *ℤ get_or ts i (pos 0)) ≤ m)
    → (k : ℕ) → k ≤ n → nat_abs (sum_to start ks ts k) ≤ suc k * m
unfolding sum_to
sum_to_small m start ks ts n h part zero g = omega (arith, h)
sum_to_small m start ks ts n h part (suc k) g =
    omega (
      arith,
      suc-mul (suc k) m,
      part k g,
      sum_to_small m start ks ts n h part k (omega arith),
      nat_abs_add (sum_to start ks ts k) (get_or ks k (pos 0) *ℤ get_or ts k (pos 0)),
    )

-- the largest product of a speed and a density
abbrev pub largest : ℕ
largest = divisor_ceiling * jam_ceiling

-- what is at most eight times that fits
pub eight_fit : (z : ℤ) → nat_abs z ≤ 8 * largest → SFits w64 z
eight_fit z h = record { sfits = lt_of_le_of_lt (le_trans (below z) h) (lit< tt) }
  where
    below : (z : ℤ) → mag z ≤ nat_abs z
    below (pos n) = omega arith
    below (negsuc n) = omega arith

-- a number that the code worked out, by what it is shown to be: it fits, and it is read back as it was written
pub fits : {z w : ℤ} → z ≡ w → nat_abs w ≤ 8 * largest → SFits w64 z
fits e h = eight_fit _ (rw e h)

pub exact_in_i64 : {z w : ℤ} → z ≡ w → nat_abs w ≤ 8 * largest → to_z w64 (of_z w64 z) ≡ w
exact_in_i64 e h = to_z-of_z (fits e h) ∙ e

pub pos_exact_in_i64 : (n : ℕ) → n ≤ 8 * largest → to_z w64 n ≡ pos n
pos_exact_in_i64 n h = to_z_pos w64 (lt_of_le_of_lt h (lit< tt))

pub product_exact_in_i64 : {z : ℤ} {n : ℕ} → z ≡ pos n → n ≤ largest → to_z w64 (of_z w64 z) ≡ pos n
product_exact_in_i64 e h = exact_in_i64 e (le_trans h (lit≤ tt))

-- a multiplier of the table, −1, 0 or 1, leaves no number larger
pub entry_times : (mode k : ℕ) → 1 ≤ mode → mode ≤ 7 → k < 7 → (t : ℤ) → nat_abs (get_or (row_of mode) k (pos 0) *ℤ t) ≤ nat_abs t
entry_times mode k low high h t =
    let bound = mul-le-mul (entry_small mode k low high h) (le_refl (nat_abs t)) in
    rw nat_abs_mul (rw one-mul at bound)

module _ (r : Road) (ok : Accepted r) where
  product_small : (speed x : ℕ) → speed ≤ r.divisor → x ≤ r.jam → speed * x ≤ largest
  product_small speed x s h = mul-le-mul (le_trans s ok.divisor_high) (le_trans h ok.jam_high)

  pub free_small : (x : ℕ) → x ≤ r.jam → r.free * x ≤ largest
  free_small x h = product_small r.free x ok.free_high h

  pub wave_small : (x : ℕ) → x ≤ r.jam → r.wave * x ≤ largest
  wave_small x h = product_small r.wave x ok.wave_high h

  -- a cell with its neighbours
  module _ (left own right : ℕ) (left_high : left ≤ r.jam) (own-high : own ≤ r.jam) (right_high : right ≤ r.jam) where
    term_small : (k : ℕ) → nat_abs (get_or (terms r left own right) k (pos 0)) ≤ largest
    unfolding terms
    term_small zero = free_small left left_high
    term_small (suc zero) = free_small own own-high
    term_small (suc (suc zero)) = wave_small own own-high
    term_small (suc (suc (suc zero))) = wave_small right right_high
    term_small (suc (suc (suc (suc zero)))) = wave_small r.critical (le_of_lt ok.critical_high)
    term_small (suc (suc (suc (suc (suc zero))))) = free_small r.critical (le_of_lt ok.critical_high)
    term_small (suc (suc (suc (suc (suc (suc zero)))))) = wave_small r.jam (le_refl r.jam)
    term_small (suc (suc (suc (suc (suc (suc (suc k))))))) = zero-le

    start_small : r.divisor * own ≤ largest
    start_small = product_small r.divisor own (le_refl r.divisor) own-high

    -- in every mode: each product, the start with the first k of them, and the whole row
    module _ (mode : ℕ) (mode_low : 1 ≤ mode) (mode_high : mode ≤ 7) where
      part_small : (k : ℕ) → k < 7 → nat_abs (get_or (row_of mode) k (pos 0) *ℤ get_or (terms r left own right) k (pos 0)) ≤ largest
      part_small k h = le_trans (entry_times mode k mode_low mode_high h (get_or (terms r left own right) k (pos 0))) (term_small k)

      sum_small : (k : ℕ) → k ≤ 7
          → nat_abs (sum_to (pos (r.divisor * own)) (row_of mode) (terms r left own right) k) ≤ suc k * largest
      sum_small = sum_to_small largest (pos (r.divisor * own)) (row_of mode) (terms r left own right) 7 start_small part_small

      pub sum_row : sum_to (pos (r.divisor * own)) (row_of mode) (terms r left own right) 7 ≡ row_value r mode left own right
      unfolding row_value terms
      sum_row =
          let long = row_length mode mode_low mode_high in
          rw long at (sum_to_all (pos (r.divisor * own)) (row_of mode) (terms r left own right) long)

      pub row_small : nat_abs (row_value r mode left own right) ≤ 8 * largest
      row_small = rw sum_row at (sum_small 7 (le_refl 7))
