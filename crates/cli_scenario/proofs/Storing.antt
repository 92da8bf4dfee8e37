-- Values stored in a row, midway: whatever stores the rest from here has stored the whole.
use mathlib.Core.Path.{◌≡◌, refl, ap, sym, ◌∙◌}
use mathlib.Core.List.{List, [], ◌∷◌, ◌++◌}
use Prim.Native.Nat.{ℕ, zero, suc, ◌+◌, ◌-◌, ◌≤◌, ◌<◌, min}
use native.Mathlib.Nat.{min-eq_left}
use lib.Dec.{leb}
use borrow.Author.Tests.{leb-true, leb-false}
use mathlib.Core.Bool.{Bool, true, false}
use native.Mathlib.Omega.{arith}
use lib.ListN.{length, take, drop, replicate, set, length-set, length-append, length-replicate}
use lib.Seq.{set_out, take-suc-set}
use Rattle.std.proofs.Common.{append_assoc, add-zero}
use Rattle.std.proofs.lemmas.List.{drop-set-lt, take-append-drop}
use mathlib.Core.List.{append-nil}
use Rattle.cli_scenario.specs.Values.{overlaid, Stored}

pub length_overlaid : (out : List ℕ) (k : ℕ) (vs : List ℕ) → length (overlaid out k vs) ≡ length out
unfolding overlaid
length_overlaid out k [] = refl
length_overlaid out k (v ∷ vs) = length_overlaid (set out k v) (suc k) vs ∙ length-set out k v

-- nothing is written past the end
overlaid_out : (out : List ℕ) (k : ℕ) (vs : List ℕ) → length out ≤ k → overlaid out k vs ≡ out
unfolding overlaid
overlaid_out out k [] h = refl
overlaid_out out k (v ∷ vs) h =
    rw (set_out out k v h) (overlaid_out out (suc k) vs (omega arith))

overlaid_append : (out : List ℕ) (k : ℕ) (vs ws : List ℕ) → overlaid out k (vs ++ ws) ≡ overlaid (overlaid out k vs) (k + length vs) ws
unfolding overlaid
overlaid_append out k [] ws = ap (λ (n : ℕ). overlaid out n ws) (omega arith)
overlaid_append out k (v ∷ vs) ws =
    overlaid_append (set out k v) (suc k) vs ws
    ∙ ap (λ (n : ℕ). overlaid (overlaid (set out k v) (suc k) vs) n ws) (omega arith)

module _ {out next : List ℕ} {k r : ℕ} {vs : List ℕ} (s : Stored out next k vs r) where
  pub stored_length : length next ≡ length out
  stored_length = ap length s.list ∙ length_overlaid out k vs

  pub stored_room : r ≤ length next
  stored_room = let l = stored_length in let f = s.filled in omega arith

  -- two in a row
  pub stored_more : {last : List ℕ} {q : ℕ} (ws : List ℕ) → Stored next last r ws q → Stored out last k (vs ++ ws) q
  stored_more {last} {q} ws t =
      record {
        list = t.list ∙ ap (λ (l : List ℕ). overlaid l r ws) s.list ∙ same_end ∙ sym (overlaid_append out k vs ws);
        filled = omega (arith, stored_length, s.filled, t.filled, length-append vs ws);
      }
    where
      -- where the list is full, nothing more is written
      same_end : overlaid (overlaid out k vs) r ws ≡ overlaid (overlaid out k vs) (k + length vs) ws
      same_end = by_test (leb (k + length vs) (length out)) refl
        where
          by_test : (t : Bool) → leb (k + length vs) (length out) ≡ t
              → overlaid (overlaid out k vs) r ws ≡ overlaid (overlaid out k vs) (k + length vs) ws
          by_test true e = ap (λ (n : ℕ). overlaid (overlaid out k vs) n ws) (s.filled ∙ min-eq_left (leb-true _ _ e))
          by_test false e =
              let full : length out < k + length vs = leb-false _ _ e in
              overlaid_out (overlaid out k vs) r ws (omega (arith, length_overlaid out k vs, s.filled))
              ∙ sym (overlaid_out (overlaid out k vs) (k + length vs) ws (omega (arith, length_overlaid out k vs)))

-- nothing stored
pub stored_nothing : (out : List ℕ) (k : ℕ) → k ≤ length out → Stored out out k [] k
unfolding overlaid
stored_nothing out k h = record { list = refl; filled = omega arith }

-- one value a number of times, as far as the list goes
overlaid_run : (out : List ℕ) (k n v : ℕ) → k + n ≤ length out → overlaid out k (replicate n v) ≡ take k out ++ replicate n v ++ drop (k + n) out
unfolding overlaid
overlaid_run out k zero v h = rw (append-nil (take k out), add-zero k) (sym (take-append-drop k out))
overlaid_run out k (suc n) v h =
    let inside : k < length out = omega arith in
    let room : suc k + n ≤ length (set out k v) = omega (arith, length-set out k v) in
    let next : suc k + n ≡ k + suc n = omega arith in
    overlaid_run (set out k v) (suc k) n v room
    ∙ rw (next, take-suc-set out k v inside, drop-set-lt (k + suc n) out k v (omega arith), append_assoc (take k out) (v ∷ []) (replicate n v)) refl

-- no more of them than there is room for
overlaid_clip : (out : List ℕ) (k n m v : ℕ) → m ≤ n → length out ≤ k + m → overlaid out k (replicate n v) ≡ overlaid out k (replicate m v)
unfolding overlaid
overlaid_clip out k n zero v h full = overlaid_out out k (replicate n v) (omega arith)
overlaid_clip out k zero (suc m) v h full = absurd (omega arith)
overlaid_clip out k (suc n) (suc m) v h full = overlaid_clip (set out k v) (suc k) n m v (omega arith) (omega (arith, length-set out k v))

overlaid_room : (out : List ℕ) (k n m v : ℕ) → m ≡ min (length out - k) n → overlaid out k (replicate n v) ≡ overlaid out k (replicate m v)
overlaid_room out k n m v e = by_room (leb n (length out - k)) refl
  where
    by_room : (t : Bool) → leb n (length out - k) ≡ t → overlaid out k (replicate n v) ≡ overlaid out k (replicate m v)
    by_room true l = ap (λ (i : ℕ). overlaid out k (replicate i v)) (omega (arith, leb-true n (length out - k) l))
    by_room false l = overlaid_clip out k n m v (omega arith) (omega (arith, leb-false n (length out - k) l))

pub stored_run : (out next : List ℕ) (k n m v : ℕ) → k ≤ length out → m ≡ min (length out - k) n
    → next ≡ take k out ++ replicate m v ++ drop (k + m) out → Stored out next k (replicate n v) (k + m)
stored_run out next k n m v h e w = record {
  list = w ∙ sym (overlaid_run out k m v (omega arith)) ∙ sym (overlaid_room out k n m v e);
  filled = omega (arith, length-replicate n v);
}

-- what is left to store from place at on, for the whole from place k on
pub record ValuesStored (rest whole : List ℕ) (k : ℕ) (start out : List ℕ) (at : ℕ) : Type 0 where
  pub room : at ≤ length out
  pub long : length out ≡ length start
  pub completes : (next : List ℕ) (r : ℕ) → Stored out next at rest r → Stored start next k whole r

pub begins : (whole out : List ℕ) (k : ℕ) → k ≤ length out → ValuesStored whole whole k out out k
begins whole out k h = record { room = h; long = refl; completes = λ next r s. s }

module _ {rest whole start out : List ℕ} {k at : ℕ} (now : ValuesStored rest whole k start out at) where
  pub turns : (here later next : List ℕ) (r : ℕ) → rest ≡ here ++ later → Stored out next at here r → ValuesStored later whole k start next r
  turns here later next r e s = record {
    room = stored_room s;
    long = stored_length s ∙ now.long;
    completes = λ last q t. now.completes last q (rw e (stored_more s later t));
  }

  pub ends : rest ≡ [] → Stored start out k whole at
  ends e = now.completes out at (rw e (stored_nothing out at now.room))
