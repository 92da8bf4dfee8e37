-- The table against the modes' definitions, by tests that antt computes: a row is what comes in over the left face less what goes out over the right one.
use mathlib.Core.Path.{◌≡◌, refl, ap, ap₂}
use mathlib.Core.Bool.{Bool, true, false}
use mathlib.Core.List.{List, [], ◌∷◌}
use Prim.Native.Nat.{ℕ, ◌+◌, ◌-◌, ◌*◌, ◌≤◌, ◌<◌}
use native.Mathlib.Nat.{zero-mul, one-mul, mul-add}
use native.Mathlib.Omega.{arith}
use lib.Dec.{T, eqb, leb, eqb→eq, leb→le}
use lib.IntN.{ℤ, pos, negsuc, ◌+ℤ◌, ◌-ℤ◌, nat_abs, +ℤ_idl, +ℤ_idr, +ℤ_assoc, +ℤ_invr, +ℤ-neg_ℤ_cancel}
use lib.ListN.{length, get_or}
use Rattle.choice.specs.Choice.{pick, both}
use Rattle.road.specs.Judgement.{Accepted}
use Rattle.road.specs.declared.Road.{Road}
use Rattle.choice.proofs.Choice.{both_left, both_right}
use Rattle.choice.proofs.Grid.{upto, upto_at, grid_at}
use Rattle.flux.specs.Face.{letter_d}
use Rattle.words.specs.Words.{illegal_pair}
use Rattle.modes.specs.Modes.{mode_of}
use Rattle.rows.specs.Rows.{row_table, row_of, left_flow, right_flow, terms, dot}
use Rattle.rows.proofs.Dot.{plus, multiple, dot_plus, dot_multiple}

-- equal multipliers, column by column
same_entry : ℤ → ℤ → Bool
same_entry (pos a) (pos b) = eqb a b
same_entry (pos a) (negsuc b) = false
same_entry (negsuc a) (pos b) = false
same_entry (negsuc a) (negsuc b) = eqb a b

same_integers : List ℤ → List ℤ → Bool
same_integers [] [] = true
same_integers [] (l ∷ ls) = false
same_integers (k ∷ ks) [] = false
same_integers (k ∷ ks) (l ∷ ls) = both (same_entry k l) (same_integers ks ls)

same_entry_eq : (k l : ℤ) → T (same_entry k l) → k ≡ l
unfolding same_entry
same_entry_eq (pos a) (pos b) t = ap pos (eqb→eq a b t)
same_entry_eq (pos a) (negsuc b) t = absurd t
same_entry_eq (negsuc a) (pos b) t = absurd t
same_entry_eq (negsuc a) (negsuc b) t = ap negsuc (eqb→eq a b t)

same_eq : (ks ls : List ℤ) → T (same_integers ks ls) → ks ≡ ls
unfolding same_integers
same_eq [] [] t = refl
same_eq [] (l ∷ ls) t = absurd t
same_eq (k ∷ ks) [] t = absurd t
same_eq (k ∷ ks) (l ∷ ls) t =
    ap₂ ◌∷◌ (same_entry_eq k l (both_left (same_entry k l) (same_integers ks ls) t)) (same_eq ks ls (both_right (same_entry k l) (same_integers ks ls) t))

-- q × C + p × C − q × J
balance : List ℤ
balance = pos 0 ∷ pos 0 ∷ pos 0 ∷ pos 0 ∷ pos 1 ∷ pos 1 ∷ negsuc 0 ∷ []

-- it is 0 on an accepted road
balance_none : (r : Road) → Accepted r → (left own right : ℕ) → dot balance (terms r left own right) ≡ pos 0
unfolding balance dot terms
balance_none r ok left own right =
    simp (zero-mul, one-mul, +ℤ_idl, +ℤ_idr, ← +ℤ_assoc, whole) (+ℤ_invr (pos (r.wave * r.critical + r.free * r.critical)))
  where
    rest : r.critical + (r.jam - r.critical) ≡ r.jam
    rest = let below = ok.critical_high in omega arith

    whole : r.wave * r.jam ≡ r.wave * r.critical + r.free * r.critical
    whole = rw (ok.balance, ← mul-add, rest)

-- the row of a legal pair plus the right face's flow is the left face's flow, plus q × C + p × C − q × J as often as the row has q × C
balanced : ℕ → ℕ → Bool
balanced s t =
    pick (illegal_pair s t) true
    (same_integers (plus (row_of (mode_of s t)) (right_flow t)) (plus (left_flow s) (multiple (get_or (row_of (mode_of s t)) 4 (pos 0)) balance)))

-- the test, over all pairs of letters
table_balanced : T (upto 3 (λ s. upto 3 (balanced s)))
unfolding balanced same_integers same_entry plus multiple balance illegal_pair mode_of row_table row_of left_flow right_flow
table_balanced = tt

-- and the rule at each legal pair of them
module _ (s t : ℕ) (s-known : s ≤ letter_d) (t-known : t ≤ letter_d) (legal : illegal_pair s t ≡ false) where
  row_columns : (c : ℤ) × (plus (row_of (mode_of s t)) (right_flow t) ≡ plus (left_flow s) (multiple c balance))
  unfolding balanced
  row_columns = (
    get_or (row_of (mode_of s t)) 4 (pos 0),
    same_eq _ _ (rw legal at (grid_at 3 3 balanced table_balanced s t (omega arith) (omega arith))),
  )

  -- a row's sum is the published flow over the left face less that over the right face
  pub row_rule : (r : Road) → Accepted r → (left own right : ℕ) → dot (row_of (mode_of s t)) (terms r left own right)
      ≡ dot (left_flow s) (terms r left own right) -ℤ dot (right_flow t) (terms r left own right)
  row_rule r ok left own right =
      let ts = terms r left own right in
      let (c, e) = row_columns in
      let nothing = dot_multiple balance ts (balance_none r ok left own right) c in
      let sums : dot (row_of (mode_of s t)) ts +ℤ dot (right_flow t) ts ≡ dot (left_flow s) ts =
      rw (← dot_plus (row_of (mode_of s t)) (right_flow t) ts, e, dot_plus, nothing) (+ℤ_idr (dot (left_flow s) ts)) in
      rw (← sums, +ℤ-neg_ℤ_cancel)

-- every multiplier of the table is −1, 0 or 1
small : ℕ → ℕ → Bool
small i k = leb (nat_abs (get_or (get_or row_table i []) k (pos 0))) 1

table_small : T (upto 7 (λ i. upto 7 (small i)))
unfolding small row_table
table_small = tt

pub entry_small : (mode k : ℕ) → 1 ≤ mode → mode ≤ 7 → k < 7 → nat_abs (get_or (row_of mode) k (pos 0)) ≤ 1
unfolding small row_of
entry_small mode k low high h = leb→le _ _ (grid_at 7 7 small table_small (mode - 1) k (omega arith) h)

-- every row has seven
full : ℕ → Bool
full i = eqb (length (get_or row_table i [])) 7

table_full : T (upto 7 full)
unfolding full row_table
table_full = tt

pub row_length : (mode : ℕ) → 1 ≤ mode → mode ≤ 7 → length (row_of mode) ≡ 7
unfolding full row_of
row_length mode low high = eqb→eq _ _ (upto_at 7 full table_full (mode - 1) (omega arith))
