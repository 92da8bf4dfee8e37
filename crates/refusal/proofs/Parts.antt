-- A table in two parts: what the first part leaves to know, for every call whose shape is judged first.
use mathlib.Core.Path.{◌≡◌, ◌∙◌, refl, sym, ap}
use mathlib.Core.Bool.{Bool, true, false}
use mathlib.Core.List.{List, [], ◌∷◌, ◌++◌}
use Prim.Native.Nat.{ℕ}
use native.Mathlib.Nat.{pos_of_ne-zero}
use lib.Dec.{eqb}
use Rattle.choice.specs.Choice.{pick}
use Rattle.refusal.specs.Table.{Check, passed, judge_below, judge}
use Rattle.refusal.specs.Outcome.{Outcome}
use Rattle.refusal.proofs.Table.{Passing, condition_of, judge_append, first_part_stands}

-- a refusal by the first part is the whole table's
pub part_stands : (checks more : List Check) (f : Outcome) → f ≡ judge checks → (f.number ≡ 0 → ⊥) → f ≡ judge (checks ++ more)
part_stands checks more f e n = e ∙ sym (first_part_stands checks more (rw e at (pos_of_ne-zero n)))

-- the checks below, judged below what the first part was worked to, are the whole table's
pub part_goes_on : (checks more : List Check) {f g : Outcome} → f ≡ judge checks → g ≡ judge_below f more → g ≡ judge (checks ++ more)
part_goes_on checks more e h = h ∙ ap (λ (f : Outcome). judge_below f more) e ∙ sym (judge_append passed checks more)

-- a number whose condition fails in the whole has one that fails in the first part
pub part_clear : (checks more : List Check) (n : ℕ) → condition_of n (checks ++ more) ≡ false → condition_of n checks ≡ false
part_clear [] more n e = refl
part_clear (r ∷ rs) more n e = by_test (eqb r.number n) e (part_clear rs more n)
  where
    by_test : (b : Bool) → pick b r.condition (condition_of n (rs ++ more)) ≡ false → (condition_of n (rs ++ more) ≡ false → condition_of n rs ≡ false)
        → pick b r.condition (condition_of n rs) ≡ false
    by_test true e rest = e
    by_test false e rest = rest e

-- the whole passes where both parts do
pub parts_pass : (checks more : List Check) → Passing checks → Passing more → Passing (checks ++ more)
parts_pass [] more p q = q
parts_pass (r ∷ rs) more (e, p) q = (e, parts_pass rs more p q)

-- a refusal that was worked has the table's number
pub same_number : {f g : Outcome} → f ≡ g → f.number ≡ 0 → g.number ≡ 0
same_number e z = sym (ap (λ (f : Outcome). f.number) e) ∙ z
