-- Stillness by faces: a step is still exactly when all faces move the same units. And the code's test, which compares both ends and then the inner faces.
use mathlib.Core.Path.{◌≡◌, ◌∙◌, refl, sym, ap, ap₂}
use mathlib.Core.Bool.{Bool, true, false}
use mathlib.Core.Logic.{◌↔◌, ◌≢◌}
use mathlib.Core.List.{List, [], ◌∷◌, ◌++◌}
use Prim.Native.Nat.{ℕ, zero, suc, ◌+◌, ◌-◌, ◌≤◌, ◌<◌, zero-le}
use native.Mathlib.Nat.{le_refl, zero-add}
use native.Mathlib.Decide.{dec_lt}
use native.Mathlib.Numerals.{add-one}
use native.Mathlib.Omega.{arith}
use lib.ListN.{length, get_or, get_or-append}
use lib.Seq.{ext_get_or, get_or-append_seam}
use Rattle.std.specs.Bool.{MatchBool}
use Rattle.std.specs.List.{range_with_len, AllWithin, HoldsAt}
use Rattle.std.proofs.lemmas.List.FromFn.{length-range_with_len, get_or-range_with_len}
use Rattle.road.specs.Judgement.{Accepted}
use Rattle.road.specs.declared.Road.{Road}
use Rattle.scheme.specs.Advance.{padded, face_flows}
use Rattle.scheme.specs.Rounded.{moved, round_step}
use Rattle.scheme.specs.Settling.{still}
use Rattle.scheme.proofs.Shape.{stepped_length}
use Rattle.scheme.proofs.Ahead.{enters}
use Rattle.scheme.proofs.Faces.{flow_at_face, enters_first, still_means}
use Rattle.scheme.proofs.Promises.{round_cell}

-- a test that does not hold
fails : (b : Bool) → (b ≡ true → ⊥) → false ≡ b
fails true n = absurd (n refl)
fails false n = refl

module _ (r : Road) (caps : List ℕ) (up down : ℕ) (x : List ℕ) where
  -- the units over face k
  abbrev over : ℕ → ℕ
  over k = get_or (face_flows (moved r caps) up down x) k 0

  -- those over the right face of a cell, by what stands ahead of it
  right_face : (k : ℕ) → k < length x → {next : ℕ} → get_or (x ++ (down ∷ [])) (suc k) 0 ≡ next → over (suc k) ≡ moved r caps (suc k) (get_or x k 0) next
  unfolding padded
  right_face k h e = flow_at_face (moved r caps) up down x (suc k) h ∙ ap₂ (moved r caps (suc k)) (get_or-append x (down ∷ []) 0 k h) e

  inner_face : (k : ℕ) → k + 1 < length x → over (k + 1) ≡ moved r caps (k + 1) (get_or x k 0) (get_or x (k + 1) 0)
  inner_face k = rw (add-one k) (λ h. right_face k (omega arith) (get_or-append x (down ∷ []) 0 (suc k) h))

  first_face : 0 < length x → over 0 ≡ moved r caps 0 up (get_or x 0 0)
  first_face pos = sym (enters_first (moved r caps) up down x) ∙ enters (moved r caps) up down x pos

  last_face : 0 < length x → over (length x) ≡ moved r caps (length x) (get_or x (length x - 1) 0) down
  last_face pos =
      let same : suc (length x - 1) ≡ length x = omega arith in
      rw same at (right_face (length x - 1) (omega arith) (ap (λ (k : ℕ). get_or (x ++ (down ∷ [])) k 0) same ∙ get_or-append_seam x down [] 0))

  module _ (ok : Accepted r) where
    -- a cell keeps its density exactly where as much leaves as enters, since no more leaves than it holds
    kept_even : round_step r caps up down x ≡ x → (k : ℕ) → k ≤ length x → over k ≡ over 0
    kept_even e zero h = refl
    kept_even e (suc k) h =
        omega (arith, round_cell r caps ok up down x k h, ap (λ (l : List ℕ). get_or l k 0) e, kept_even e k (omega arith))

    even_kept : ((k : ℕ) → k ≤ length x → over k ≡ over 0) → round_step r caps up down x ≡ x
    even_kept even =
        let long = stepped_length 1 (moved r caps) up down x in
        ext_get_or 0 (round_step r caps up down x) x long
        (λ k l. let h = rw long at l in omega (arith, round_cell r caps ok up down x k h, even k (omega arith), even (suc k) h))

    -- still: all n+1 faces move the same units
    pub even_flows : (still r caps up down x ≡ true) ↔ ((k : ℕ) → k ≤ length x → get_or (face_flows (moved r caps) up down x) k 0 ≡ get_or (face_flows (moved r caps) up down x) 0 0)
    even_flows =
        let (keeps, kept) = still_means r caps up down x in
        (λ e. kept_even (keeps e), λ even. kept (even_kept even))

  -- the units over the right face of a cell that is not the last, and the places of these cells
  abbrev pub inner : ℕ → ℕ
  inner i = moved r caps (i + 1) (get_or x i 0) (get_or x (i + 1) 0)

  abbrev pub inner_cells : List ℕ
  inner_cells = range_with_len 0 (length x - 1)

  many : length inner_cells ≡ length x - 1
  many = length-range_with_len 0 (length x - 1)

  place : (i : ℕ) → i + 1 < length x → get_or inner_cells i 0 ≡ i
  place i h = get_or-range_with_len 0 (length x - 1) i 0 (omega arith) ∙ zero-add i

  -- the code's test: both ends are compared, and then the inner faces
  module _ (ok : Accepted r) (some : 0 < length x) {first last : ℕ}
      (at_first : first ≡ moved r caps 0 up (get_or x 0 0)) (at_last : last ≡ moved r caps (length x) (get_or x (length x - 1) 0) down) where
    -- some face moves other units
    uneven : (k : ℕ) → k ≤ length x → (over k ≡ first → ⊥) → false ≡ still r caps up down x
    uneven k h n = fails (still r caps up down x) (λ s. n ((even_flows ok).0 s k h ∙ first_face some ∙ sym at_first))

    pub ends_differ : (last ≡ first → ⊥) → false ≡ still r caps up down x
    ends_differ n = uneven (length x) (le_refl (length x)) (λ e. n (at_last ∙ sym (last_face some) ∙ e))

    inner_differs : (i : ℕ) → i + 1 < length x → (inner i ≡ first → ⊥) → false ≡ still r caps up down x
    inner_differs i h n = uneven (i + 1) (omega arith) (λ e. n (sym (inner_face i h) ∙ e))

    all_same : last ≡ first → ((i : ℕ) → i + 1 < length x → inner i ≡ first) → true ≡ still r caps up down x
    all_same same inners = sym ((even_flows ok).1 (λ k h. each k h ∙ sym (each 0 zero-le)))
      where
        each : (k : ℕ) → k ≤ length x → over k ≡ first
        each zero h = first_face some ∙ sym at_first
        each (suc k) h = by_place (dec_lt (suc k) (length x))
          where
            by_place : Dec (suc k < length x) → over (suc k) ≡ first
            by_place (yes within) = let l : k + 1 < length x = omega arith in rw (← add-one k) (inner_face k l ∙ inners k l)
            by_place (no beyond) = let all : suc k ≡ length x = omega arith in ap over all ∙ last_face some ∙ sym at_last ∙ same

    -- where the ends agree, the inner faces decide
    pub inner_decide : last ≡ first → (b : Bool)
        → MatchBool b (AllWithin (λ i. inner i ≡ first) inner_cells 0 (length inner_cells)) ((k : ℕ) × (k < length inner_cells) × HoldsAt (λ i. inner i ≢ first) inner_cells k)
        → b ≡ still r caps up down x
    inner_decide same true every = all_same same (λ i h. rw (place i h) at (every i 0 zero-le (rw many (omega arith))))
    inner_decide same false (k, h, other) =
        let l = rw many at h in
        inner_differs k (omega arith) (rw (place k (omega arith)) at (other 0))
