-- A copy, midway: the first i places of the output hold the cells.
use mathlib.Core.Path.{◌≡◌, ◌∙◌, refl, sym, ap}
use mathlib.Core.List.{List, [], ◌∷◌, ◌++◌}
use Prim.Native.Nat.{ℕ, suc, ◌+◌, ◌≤◌, ◌<◌}
use native.Mathlib.Numerals.{add-one}
use native.Mathlib.Omega.{arith}
use lib.ListN.{length, get_or, take, set, length-set}
use lib.Seq.{take-suc, take-suc-set, take_all}

pub record Copied (cells out : List ℕ) (i : ℕ) : Type 0 where
  pub long : length out ≡ length cells
  pub same : take i out ≡ take i cells

pub begins : (cells out : List ℕ) → length out ≡ length cells → Copied cells out 0
begins cells out e = record { long = e; same = refl }

module _ (cells out : List ℕ) (i : ℕ) (now : Copied cells out i) where
  turn : i < length cells → Copied cells (set out i (get_or cells i 0)) (suc i)
  turn h = record {
    long = length-set out i (get_or cells i 0) ∙ now.long;
    same =
        take-suc-set out i (get_or cells i 0) (let l = now.long in omega arith)
        ∙ ap (λ (p : List ℕ). p ++ (get_or cells i 0 ∷ [])) now.same
        ∙ sym (take-suc cells i 0 h);
  }

  pub turns : i < length cells → Copied cells (set out i (get_or cells i 0)) (i + 1)
  turns = rw (add-one i) turn

  pub ends : length cells ≤ i → out ≡ cells
  ends h = sym (take_all i out (let l = now.long in omega arith)) ∙ now.same ∙ take_all i cells h
