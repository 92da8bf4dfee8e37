-- `rows::WholeRow::applied` meets its contract: three products and a constant, added from left to right.
use Rattle.std.proofs.Common.{◌≡◌, refl, ℕ, ◌≤◌, le_trans}
use lib.Dec.{lit≤}
use lib.IntN.{pos, ◌*ℤ◌}
use mir.Syntax.{w64}
use mir.Val.{to_z, of_z}
use Rattle.road.specs.Ceilings.{jam_ceiling}
use Rattle.rows.specs.Coefficients.{Sized}
use Rattle.rows.specs.declared.numerators.WholeRow.{WholeRow}
use Rattle.rows.proofs.Sizes.{exact_in_i64}
use Rattle.rows.proofs.Coefficients.{times_fits, times_exact, add_first, add_second, add_third, applied_exact}
use Rattle.rows.proofs.numerators.WholeRow.applied.Goals as goal

-- the products as they are read back
module _ (row : WholeRow) (small : Sized row) where
  left_part : {n : ℕ} → n ≤ jam_ceiling → to_z w64 (of_z w64 (to_z w64 n *ℤ to_z w64 (of_z w64 row.left))) ≡ pos n *ℤ row.left
  left_part h = times_exact row.left h small.left_small (lit≤ tt)

  own_part : {n : ℕ} → n ≤ jam_ceiling → to_z w64 (of_z w64 (to_z w64 n *ℤ to_z w64 (of_z w64 row.own))) ≡ pos n *ℤ row.own
  own_part h = times_exact row.own h small.own_small (lit≤ tt)

  right_part : {n : ℕ} → n ≤ jam_ceiling → to_z w64 (of_z w64 (to_z w64 n *ℤ to_z w64 (of_z w64 row.right))) ≡ pos n *ℤ row.right
  right_part h = times_exact row.right h small.right_small (lit≤ tt)

  constant_part : to_z w64 (of_z w64 row.constant) ≡ row.constant
  constant_part = exact_in_i64 refl (le_trans small.constant_small (lit≤ tt))

pub overflow_mul-result : goal.overflow_mul-result
overflow_mul-result c = times_fits c.args.self.left c.requires.left_le_jam_ceiling c.requires.sized.left_small (lit≤ tt)

pub overflow_mul-result-2 : goal.overflow_mul-result-2
overflow_mul-result-2 c = times_fits c.args.self.own c.requires.own_le_jam_ceiling c.requires.sized.own_small (lit≤ tt)

pub overflow_mul-result-3 : goal.overflow_mul-result-3
overflow_mul-result-3 c = times_fits c.args.self.right c.requires.right_le_jam_ceiling c.requires.sized.right_small (lit≤ tt)

pub overflow_add-result : goal.overflow_add-result
overflow_add-result c =
    let s = c.args in
    let p = c.requires in
    let l = p.left_le_jam_ceiling in
    let o = p.own_le_jam_ceiling in
    let t = p.right_le_jam_ceiling in
    add_first s.self p.sized s.left s.own s.right l o t
    (left_part s.self p.sized l) (own_part s.self p.sized o) (right_part s.self p.sized t) (constant_part s.self p.sized)

pub overflow_add-result-2 : goal.overflow_add-result-2
overflow_add-result-2 c =
    let s = c.args in
    let p = c.requires in
    let l = p.left_le_jam_ceiling in
    let o = p.own_le_jam_ceiling in
    let t = p.right_le_jam_ceiling in
    add_second s.self p.sized s.left s.own s.right l o t
    (left_part s.self p.sized l) (own_part s.self p.sized o) (right_part s.self p.sized t) (constant_part s.self p.sized)

pub overflow_add-result-3 : goal.overflow_add-result-3
overflow_add-result-3 c =
    let s = c.args in
    let p = c.requires in
    let l = p.left_le_jam_ceiling in
    let o = p.own_le_jam_ceiling in
    let t = p.right_le_jam_ceiling in
    add_third s.self p.sized s.left s.own s.right l o t
    (left_part s.self p.sized l) (own_part s.self p.sized o) (right_part s.self p.sized t) (constant_part s.self p.sized)

pub returns : goal.returns
returns c =
    let s = c.args in
    let p = c.requires in
    let l = p.left_le_jam_ceiling in
    let o = p.own_le_jam_ceiling in
    let t = p.right_le_jam_ceiling in
    applied_exact s.self p.sized s.left s.own s.right l o t
    (left_part s.self p.sized l) (own_part s.self p.sized o) (right_part s.self p.sized t) (constant_part s.self p.sized)
