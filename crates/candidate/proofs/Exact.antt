-- A row's whole numbers are small enough for signed numbers of 64 bits and for floats: each is read back as it was written, and as a float is exactly itself.
use Rattle.std.proofs.Common.{◌≡◌, ℕ, ◌*◌, ◌^◌, ◌≤◌, ℤ, pos, negsuc, nat_abs, T, to_z, of_z, w64, sym, ap, subst, le_trans, arith, lit≤}
use lib.Dec.{le→leb, lt→ltb}
use lib.Ieee.{binary64, prec, in_float}
use Rattle.road.specs.Judgement.{Accepted}
use Rattle.road.specs.declared.Road.{Road}
use Rattle.modes.specs.Codes.{code_of}
use Rattle.modes.specs.declared.mode.Mode.{Mode}
use Rattle.modes.specs.declared.mode.Mode.TheVariants.{WW, WL, LW, LD, DW, DL, DD}
use Rattle.rows.specs.Coefficients.{left_coefficient, own_coefficient, right_coefficient, constant_of, whole_row_of, Sized}
use Rattle.rows.specs.declared.numerators.WholeRow.{WholeRow}
use Rattle.rows.proofs.Sizes.{largest, exact_in_i64}
use Rattle.rows.proofs.Coefficients.{sized}

-- a mode's code is one of 1 to 7
pub code_low : (mode : Mode) → 1 ≤ code_of mode
code_low WW = omega arith
code_low WL = omega arith
code_low LW = omega arith
code_low LD = omega arith
code_low DW = omega arith
code_low DL = omega arith
code_low DD = omega arith

pub code_high : (mode : Mode) → code_of mode ≤ 7
code_high WW = omega arith
code_high WL = omega arith
code_high LW = omega arith
code_high LD = omega arith
code_high DW = omega arith
code_high DL = omega arith
code_high DD = omega arith

-- a number that the code has where w is meant
pub record Reads (z w : ℤ) : Type 0 where
  pub same : to_z w64 (of_z w64 z) ≡ w
  pub exact : T (in_float binary64 (to_z w64 (of_z w64 z)))

small_in_float : (z : ℤ) → nat_abs z ≤ 2 ^ prec binary64 → T (in_float binary64 z)
unfolding in_float
small_in_float (pos n) h = le→leb n (2 ^ prec binary64) h
small_in_float (negsuc n) h = lt→ltb n (2 ^ prec binary64) h

reads : {z w : ℤ} → z ≡ w → nat_abs w ≤ 8 * largest → Reads z w
reads {z} {w} e h =
    let same : to_z w64 (of_z w64 z) ≡ w = exact_in_i64 e h in
    record { same = same; exact = subst (λ (x : ℤ). T (in_float binary64 x)) (sym same) (small_in_float w (le_trans h (lit≤ tt))) }

-- a mode's row, number by number
pub record RowReads (r : Road) (mode : ℕ) (row : WholeRow) : Type 0 where
  pub left : Reads row.left (left_coefficient r mode)
  pub own : Reads row.own (own_coefficient r mode)
  pub right : Reads row.right (right_coefficient r mode)
  pub constant : Reads row.constant (constant_of r mode)

pub row_reads : (r : Road) → Accepted r → (mode : Mode) (row : WholeRow) → row ≡ whole_row_of r (code_of mode) → RowReads r (code_of mode) row
unfolding whole_row_of
row_reads r ok mode row same =
    let small : Sized (whole_row_of r (code_of mode)) = sized (code_of mode) (code_low mode) (code_high mode) r ok in
    record {
      left = reads (ap (λ (row : WholeRow). row.left) same) (le_trans small.left_small (lit≤ tt));
      own = reads (ap (λ (row : WholeRow). row.own) same) (le_trans small.own_small (lit≤ tt));
      right = reads (ap (λ (row : WholeRow). row.right) same) (le_trans small.right_small (lit≤ tt));
      constant = reads (ap (λ (row : WholeRow). row.constant) same) (le_trans small.constant_small (lit≤ tt));
    }
