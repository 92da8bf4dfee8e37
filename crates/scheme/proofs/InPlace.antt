-- The step in place, midway, for any lawful flow: the cells before i are new, those from i on are old, and the inflow of cell i is known.
use mathlib.Core.Path.{◌≡◌, ◌∙◌, refl, sym, ap}
use mathlib.Core.List.{List, [], ◌∷◌, ◌++◌}
use Prim.Native.Nat.{ℕ, zero, suc, ◌+◌, ◌-◌, ◌≤◌, ◌<◌}
use native.Mathlib.Nat.{one-mul}
use native.Mathlib.Numerals.{add-one}
use native.Mathlib.Omega.{arith}
use lib.ListN.{length, get_or, take, drop, set, length-set, drop_of_length-le}
use lib.Seq.{drop-cons, take-suc-set, drop-set-lt, append_snoc, set_split, get_or-set_other}
use Rattle.scheme.specs.Advance.{ahead, advance, outflow, entering, leaving, stepped}
use Rattle.scheme.specs.Sums.{Below}
use Rattle.scheme.specs.Partners.{Lawful}
use Rattle.scheme.specs.Calls.{Stepped}
use Rattle.scheme.proofs.Range.{in_room, out_holds}
use Rattle.scheme.proofs.Ahead.{ahead_is, enters}

-- Why one list is enough (document 02, E5: "The step may not hold a second list of old densities"). With the list's places from 0, place i lies between faces i and i + 1. The densities before i are new
-- and not read again, those from i on are old, and `inflow` is the flow over face i, worked from old densities: so `cells` says that the new ones in front, and what working on from the rest and this inflow
-- gives, are the step of the old list, and `left` the same of face n. A turn reads place i before it is written, and face i + 1 needs places i and i + 1 alone, both still old
pub record StepUnderway (j : ℕ) (F : ℕ → ℕ → ℕ → ℕ) (up down : ℕ) (old : List ℕ) (first : ℕ) (x : List ℕ) (i inflow : ℕ) : Type 0 where
  pub long : length x ≡ length old
  pub inside : i < length x
  pub below : Below j x
  pub room : get_or x i 0 + inflow ≤ j
  pub cells : take i x ++ advance 1 F (suc i) inflow down (drop i x) ≡ stepped 1 F up down old
  pub entered : first ≡ entering F up down old
  pub left : outflow F (suc i) inflow down (drop i x) ≡ leaving F up down old

-- one more density in range
pub below_set : (j : ℕ) (x : List ℕ) (i v : ℕ) → Below j x → v ≤ j → Below j (set x i v)
below_set j [] i v h k n = h n
below_set j (a ∷ x) zero v h k zero = k
below_set j (a ∷ x) zero v h k (suc n) = h (suc n)
below_set j (a ∷ x) (suc i) v h k zero = h 0
below_set j (a ∷ x) (suc i) v h k (suc n) = below_set j x i v (λ m. h (suc m)) k n

-- one cell of the step, its outflow known
module _ (F : ℕ → ℕ → ℕ → ℕ) (i w d own : ℕ) {x rest : List ℕ} (here : x ≡ own ∷ rest) (out : ℕ) (over : out ≡ F i own (ahead d rest)) where
  advance_cell : advance 1 F i w d x ≡ (own + w - out) ∷ advance 1 F (suc i) out d rest
  unfolding advance
  advance_cell = rw (here, over, one-mul own) refl

  outflow_cell : outflow F i w d x ≡ outflow F (suc i) out d rest
  unfolding outflow
  outflow_cell = rw (here, over) refl

module _ {j c : ℕ} {F : ℕ → ℕ → ℕ → ℕ} (laws : Lawful 1 j c F) where
  pub begins : (up down : ℕ) (old : List ℕ) {first : ℕ} → 0 < length old → Below j old → first ≡ F 0 up (get_or old 0 0) → StepUnderway j F up down old first old 0 first
  unfolding stepped leaving
  begins up down old pos h e =
      let same = e ∙ sym (enters F up down old pos) in
      record {
        long = refl;
        inside = pos;
        below = h;
        room = rw e (in_room laws 0 up (get_or old 0 0) (h 0));
        cells = ap (λ (w : ℕ). advance 1 F 1 w down old) same;
        entered = same;
        left = ap (λ (w : ℕ). outflow F 1 w down old) same;
      }

  -- what a face moves its left cell holds
  pub holds : {out i a b : ℕ} → out ≡ F i a b → out ≤ a
  holds {out} {i} {a} {b} e = omega (arith, out_holds laws i a b)

  module _ {up down : ℕ} {old : List ℕ} {first : ℕ} {x : List ℕ} {i inflow : ℕ} (now : StepUnderway j F up down old first x i inflow) {out : ℕ} where
    turn : suc i < length x → out ≡ F (suc i) (get_or x i 0) (get_or x (suc i) 0) → StepUnderway j F up down old first (set x i (get_or x i 0 + inflow - out)) (suc i) out
    turn h e =
        let own = get_or x i 0 in
        let new = own + inflow - out in
        let here = drop-cons x i 0 now.inside in
        let over : out ≡ F (suc i) own (ahead down (drop (suc i) x)) = e ∙ ap (F (suc i) own) (sym (ahead_is down (drop-cons x (suc i) 0 h))) in
        let kept = drop-set-lt (suc i) x i new (omega arith) in
        record {
          long = length-set x i new ∙ now.long;
          inside = rw (length-set x i new) h;
          below = below_set j x i new now.below (let room = now.room in omega arith);
          room = rw (get_or-set_other x i (suc i) new 0 (λ q. omega arith), e) (in_room laws (suc i) own (get_or x (suc i) 0) (now.below (suc i)));
          cells =
              rw (take-suc-set x i new now.inside, kept, append_snoc)
              (ap (λ (l : List ℕ). take i x ++ l) (sym (advance_cell F (suc i) inflow down own here out over)) ∙ now.cells);
          entered = now.entered;
          left = rw kept (sym (outflow_cell F (suc i) inflow down own here out over) ∙ now.left);
        }

    -- the same, with the index as the code has it
    pub turns : i + 1 < length x → out ≡ F (i + 1) (get_or x i 0) (get_or x (i + 1) 0) → StepUnderway j F up down old first (set x i (get_or x i 0 + inflow - out)) (i + 1) out
    turns = rw (add-one i) turn

    end : length x ≤ suc i → out ≡ F (suc i) (get_or x i 0) down → Stepped F up down old (set x i (get_or x i 0 + inflow - out)) record { entered = first; left = out }
    unfolding advance outflow ahead
    end h e =
        let own = get_or x i 0 in
        let new = own + inflow - out in
        let here = drop-cons x i 0 now.inside in
        let rest : drop (suc i) x ≡ [] = drop_of_length-le x h in
        let over : out ≡ F (suc i) own (ahead down (drop (suc i) x)) = e ∙ ap (λ (l : List ℕ). F (suc i) own (ahead down l)) (sym rest) in
        record {
          cells =
              rw (set_split x i new now.inside, rest)
              (ap (λ (l : List ℕ). take i x ++ l) (sym (rw rest at (advance_cell F (suc i) inflow down own here out over))) ∙ now.cells);
          entered = now.entered;
          left = sym (rw rest at (outflow_cell F (suc i) inflow down own here out over)) ∙ now.left;
        }

    -- the same, with the last cell's place as the code has it
    pub ends : {k : ℕ} → k ≤ i → length old ≡ k + 1 → out ≡ F (length old) (get_or x k 0) down
        → Stepped F up down old (set x k (get_or x k 0 + inflow - out)) record { entered = first; left = out }
    ends {k} h last e =
        let long = now.long in
        let inside = now.inside in
        let place : k ≡ i = omega arith in
        let all : length old ≡ suc i = omega arith in
        rw place (end (omega arith) (rw (place, all) at e))
