-- `rows::WholeRow::of` meets its contract: the multipliers of the table are small, and so are the sums of what they weigh, each read back as it was made.
use Rattle.std.proofs.Common.{◌≡◌, refl, le_trans, ◌+◌, ◌*◌, ◌≤◌, arith}
use lib.Dec.{lit<, lit≤}
use lib.IntN.{pos, nat_abs, ◌*ℤ◌}
use mir.Syntax.{w64}
use mir.Val.{to_z}
use Rattle.road.specs.Judgement.{Accepted}
use Rattle.road.specs.declared.Road.{Road}
use Rattle.modes.specs.Codes.{code_of}
use Rattle.modes.specs.declared.mode.Mode.{Mode}
use Rattle.modes.proofs.ModeRange.{code_range}
use Rattle.rows.specs.Coefficients.{entry, left_coefficient, own_coefficient, right_coefficient, constant_of, whole_row_of}
use Rattle.rows.proofs.Sizes.{largest, pos_exact_in_i64, product_exact_in_i64}
use Rattle.rows.proofs.Coefficients.{multiplier_small, weighted_part, critical_wave, critical_free, jam_wave, own_sizes, constant_sizes, first_fits, both_fit, three_exact}
use Rattle.rows.proofs.numerators.WholeRow.of.Goals as goal

-- the sizes of what is added
module _ (m : Mode) (r : Road) (ok : Accepted r) where
  divisor : to_z w64 r.divisor ≡ pos r.divisor
  divisor = pos_exact_in_i64 _ (omega (arith, ok.divisor_high))

  free : to_z w64 r.free ≡ pos r.free
  free = pos_exact_in_i64 _ (omega (arith, ok.free_high, ok.divisor_high))

  wave : to_z w64 r.wave ≡ pos r.wave
  wave = pos_exact_in_i64 _ (omega (arith, ok.wave_high, ok.divisor_high))

  own_small : nat_abs (pos r.divisor) + nat_abs (entry (code_of m) 1 *ℤ pos r.free) + nat_abs (entry (code_of m) 2 *ℤ pos r.wave) ≤ 8 * largest
  own_small = let (low, high) = code_range m in le_trans (own_sizes (code_of m) low high r ok) (lit≤ tt)

  constant_small : nat_abs (entry (code_of m) 4 *ℤ pos (r.wave * r.critical)) + nat_abs (entry (code_of m) 5 *ℤ pos (r.free * r.critical))
      + nat_abs (entry (code_of m) 6 *ℤ pos (r.wave * r.jam)) ≤ 8 * largest
  constant_small = let (low, high) = code_range m in le_trans (constant_sizes (code_of m) low high r ok) (lit≤ tt)

  -- and the products in the constant
  waves : r.wave * r.critical ≤ largest
  waves = let (low, high) = code_range m in critical_wave (code_of m) low high r ok

  frees : r.free * r.critical ≤ largest
  frees = let (low, high) = code_range m in critical_free (code_of m) low high r ok

  full : r.wave * r.jam ≤ largest
  full = let (low, high) = code_range m in jam_wave (code_of m) low high r ok

pub weighted-requires-clause-multiplier_bound : goal.weighted-requires-clause-multiplier_bound
weighted-requires-clause-multiplier_bound c = multiplier_small c.args.mode c.multipliers.ensures 0 (lit< tt)

pub weighted-requires-2-clause-multiplier_bound : goal.weighted-requires-2-clause-multiplier_bound
weighted-requires-2-clause-multiplier_bound c = multiplier_small c.args.mode c.multipliers.ensures 1 (lit< tt)

pub weighted-requires-3-clause-multiplier_bound : goal.weighted-requires-3-clause-multiplier_bound
weighted-requires-3-clause-multiplier_bound c = multiplier_small c.args.mode c.multipliers.ensures 2 (lit< tt)

pub weighted-requires-4-clause-multiplier_bound : goal.weighted-requires-4-clause-multiplier_bound
weighted-requires-4-clause-multiplier_bound c = multiplier_small c.args.mode c.multipliers.ensures 3 (lit< tt)

pub weighted-requires-5-clause-multiplier_bound : goal.weighted-requires-5-clause-multiplier_bound
weighted-requires-5-clause-multiplier_bound c = multiplier_small c.args.mode c.multipliers.ensures 4 (lit< tt)

pub weighted-requires-6-clause-multiplier_bound : goal.weighted-requires-6-clause-multiplier_bound
weighted-requires-6-clause-multiplier_bound c = multiplier_small c.args.mode c.multipliers.ensures 5 (lit< tt)

pub weighted-requires-7-clause-multiplier_bound : goal.weighted-requires-7-clause-multiplier_bound
weighted-requires-7-clause-multiplier_bound c = multiplier_small c.args.mode c.multipliers.ensures 6 (lit< tt)

pub overflow_add-result : goal.overflow_add-result
overflow_add-result c =
    let m = c.args.mode in
    let r = c.args.road.road in
    let ok = c.args.road.accepted in
    first_fits (divisor m r ok)
    (weighted_part m c.multipliers.ensures 1 r.free (lit< tt) (omega arith) (free m r ok) c.weighted-2.ensures)
    (weighted_part m c.multipliers.ensures 2 r.wave (lit< tt) (omega arith) (wave m r ok) refl)
    (own_small m r ok)

pub overflow_add-result-2 : goal.overflow_add-result-2
overflow_add-result-2 c =
    let m = c.args.mode in
    let r = c.args.road.road in
    let ok = c.args.road.accepted in
    both_fit (divisor m r ok)
    (weighted_part m c.multipliers.ensures 1 r.free (lit< tt) (omega arith) (free m r ok) c.weighted-2.ensures)
    (weighted_part m c.multipliers.ensures 2 r.wave (lit< tt) (omega arith) (wave m r ok) c.weighted-3.ensures)
    (own_small m r ok)

pub overflow_add-result-3 : goal.overflow_add-result-3
overflow_add-result-3 c =
    let m = c.args.mode in
    let r = c.args.road.road in
    let ok = c.args.road.accepted in
    first_fits
    (weighted_part m c.multipliers.ensures 4 (r.wave * r.critical) (lit< tt) (waves m r ok) (product_exact_in_i64 c.product.ensures (waves m r ok)) c.weighted-5.ensures)
    (weighted_part m c.multipliers.ensures 5 (r.free * r.critical) (lit< tt) (frees m r ok) (product_exact_in_i64 c.product-2.ensures (frees m r ok)) c.weighted-6.ensures)
    (weighted_part m c.multipliers.ensures 6 (r.wave * r.jam) (lit< tt) (full m r ok) refl refl)
    (constant_small m r ok)

pub overflow_add-result-4 : goal.overflow_add-result-4
overflow_add-result-4 c =
    let m = c.args.mode in
    let r = c.args.road.road in
    let ok = c.args.road.accepted in
    both_fit
    (weighted_part m c.multipliers.ensures 4 (r.wave * r.critical) (lit< tt) (waves m r ok) (product_exact_in_i64 c.product.ensures (waves m r ok)) c.weighted-5.ensures)
    (weighted_part m c.multipliers.ensures 5 (r.free * r.critical) (lit< tt) (frees m r ok) (product_exact_in_i64 c.product-2.ensures (frees m r ok)) c.weighted-6.ensures)
    (weighted_part m c.multipliers.ensures 6 (r.wave * r.jam) (lit< tt) (full m r ok) (product_exact_in_i64 c.product-3.ensures (full m r ok)) c.weighted-7.ensures)
    (constant_small m r ok)

pub returns : goal.returns
unfolding whole_row_of left_coefficient own_coefficient right_coefficient constant_of
returns c =
    let m = c.args.mode in
    let r = c.args.road.road in
    let ok = c.args.road.accepted in
    λ i. record {
      left = weighted_part m c.multipliers.ensures 0 r.free (lit< tt) (omega arith) (free m r ok) c.weighted.ensures i;
      own = three_exact (divisor m r ok)
          (weighted_part m c.multipliers.ensures 1 r.free (lit< tt) (omega arith) (free m r ok) c.weighted-2.ensures)
          (weighted_part m c.multipliers.ensures 2 r.wave (lit< tt) (omega arith) (wave m r ok) c.weighted-3.ensures)
          (own_small m r ok) i;
      right = weighted_part m c.multipliers.ensures 3 r.wave (lit< tt) (omega arith) (wave m r ok) c.weighted-4.ensures i;
      constant = three_exact
          (weighted_part m c.multipliers.ensures 4 (r.wave * r.critical) (lit< tt) (waves m r ok) (product_exact_in_i64 c.product.ensures (waves m r ok)) c.weighted-5.ensures)
          (weighted_part m c.multipliers.ensures 5 (r.free * r.critical) (lit< tt) (frees m r ok) (product_exact_in_i64 c.product-2.ensures (frees m r ok)) c.weighted-6.ensures)
          (weighted_part m c.multipliers.ensures 6 (r.wave * r.jam) (lit< tt) (full m r ok) (product_exact_in_i64 c.product-3.ensures (full m r ok)) c.weighted-7.ensures)
          (constant_small m r ok) i;
    }
