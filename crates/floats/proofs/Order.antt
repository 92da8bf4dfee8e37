-- Two floats that are whole numbers compare as those numbers; and so, at the same scale, do a whole number and any finite number.
use mathlib.Core.Path.{◌≡◌, refl, sym, ap, ap₂, ◌∙◌}
use mathlib.Core.Bool.{Bool, true, false, not}
use Prim.Native.Nat.{ℕ, zero, suc, ◌+◌, ◌*◌, ◌≤◌, ◌<◌, zero-le}
use native.Mathlib.Decide.{dec_lt}
use native.Mathlib.Nat.{add-mul, zero-add, zero-mul, mul_right_comm, zero-lt-suc, mul-lt-mul_of_pos_right, mul-le-mul_right}
use native.Mathlib.Omega.{arith}
use borrow.Author.Tests.{lt-ltb, le-ltb}
use lib.Dec.{ltb, leb-suc-suc}
use lib.IntN.{ℤ, pos, ◌*ℤ◌}
use lib.Signed.{lt_z}
use lib.Ieee.{Float, inf, fin, up, down, below, lt}
use lib.Ieee.Fits.{down_pos}
use Rattle.floats.specs.Worth.{signed, Worth, exactly}
use Rattle.floats.proofs.Signs.{signed_times}
use Rattle.floats.proofs.Value.{Sized, sized, Valued, valued, worth→value}

ltb_times : (a b d : ℕ) → 0 < d → ltb (a * d) (b * d) ≡ ltb a b
ltb_times a b d p = go (dec_lt a b)
  where
    go : Dec (a < b) → ltb (a * d) (b * d) ≡ ltb a b
    go (yes h) = lt-ltb (a * d) (b * d) (mul-lt-mul_of_pos_right h p) ∙ sym (lt-ltb a b h)
    go (no h) =
        let l : b ≤ a = omega arith in
        le-ltb (a * d) (b * d) (mul-le-mul_right d l) ∙ sym (le-ltb a b l)

below_times : (s t : Bool) (a b d : ℕ) → 0 < d → below s (a * d) t (b * d) ≡ below s a t b
below_times false false a b d p = ltb_times a b d p
below_times false true a b d p = refl
below_times true false a b d p = ap₂ ltb (sym (zero-mul d)) (sym (add-mul a b d)) ∙ ltb_times 0 (a + b) d p
below_times true true a b d p = ltb_times b a d p

below_signed : (s t : Bool) (a b : ℕ) → below s a t b ≡ lt_z (signed s a) (signed t b)
below_signed false false a b = refl
below_signed false true a zero = sym (le-ltb a 0 zero-le)
below_signed false true a (suc b) = refl
below_signed true false zero b = rw zero-add
below_signed true false (suc a) b = lt-ltb 0 (suc a + b) (omega arith)
below_signed true true zero zero = refl
below_signed true true zero (suc b) = le-ltb (suc b) 0 zero-le
below_signed true true (suc a) zero = lt-ltb 0 (suc a) (zero-lt-suc a)
below_signed true true (suc a) (suc b) = leb-suc-suc (suc b) a

-- a finite number beside a whole one, both times `down e`
module _ (s : Bool) (m : ℕ) (e : ℤ) where
  scaled : {n : ℕ} (b : ℕ) (d : ℤ) → n ≡ b * down d → n * down e ≡ b * down e * down d
  scaled b d k = ap (λ (n : ℕ). n * down e) k ∙ mul_right_comm b (down d) (down e)

  lt_sized : {y : Float} {t : Bool} {b : ℕ} → Sized y t b → lt (fin s m e) y ≡ below s (m * up e) t (b * down e)
  unfolding lt
  lt_sized (sized {s = t} {e = d} {a = b} k) =
      ap (below s (m * up e * down d) t) (scaled b d k) ∙ below_times s t (m * up e) (b * down e) (down d) (down_pos d)

  sized_lt : {y : Float} {t : Bool} {b : ℕ} → Sized y t b → lt y (fin s m e) ≡ below t (b * down e) s (m * up e)
  unfolding lt
  sized_lt (sized {s = t} {e = d} {a = b} k) =
      ap (λ (n : ℕ). below t n s (m * up e * down d)) (scaled b d k) ∙ below_times t s (b * down e) (m * up e) (down d) (down_pos d)

  pub lt_whole : {y : Float} {w : ℤ} → Worth y w → lt (fin s m e) y ≡ lt_z (signed s (m * up e)) (w *ℤ pos (down e))
  lt_whole h = go (worth→value h)
    where
      go : {y : Float} {w : ℤ} → Valued y w → lt (fin s m e) y ≡ lt_z (signed s (m * up e)) (w *ℤ pos (down e))
      go (valued {s = t} {a = b} k) = rw (← signed_times t b (down e)) (lt_sized k ∙ below_signed s t (m * up e) (b * down e))

  pub whole_lt : {y : Float} {w : ℤ} → Worth y w → lt y (fin s m e) ≡ lt_z (w *ℤ pos (down e)) (signed s (m * up e))
  whole_lt h = go (worth→value h)
    where
      go : {y : Float} {w : ℤ} → Valued y w → lt y (fin s m e) ≡ lt_z (w *ℤ pos (down e)) (signed s (m * up e))
      go (valued {s = t} {a = b} k) = rw (← signed_times t b (down e)) (sized_lt k ∙ below_signed t s (b * down e) (m * up e))

-- an infinity lies beyond every whole number
pub inf_lt : {y : Float} {w : ℤ} (s : Bool) → Worth y w → lt (inf s) y ≡ s
unfolding lt
inf_lt s (exactly h) = refl

pub lt_inf : {y : Float} {w : ℤ} (s : Bool) → Worth y w → lt y (inf s) ≡ not s
unfolding lt
lt_inf s (exactly h) = refl

lt_below : {x y : Float} {s t : Bool} {a b : ℕ} → Sized x s a → Sized y t b → lt x y ≡ below s a t b
lt_below (sized {s} {m} {e} {a} h) (sized {s = t} {e = d} {a = b} k) =
    lt_sized s m e (sized k) ∙ ap (λ (n : ℕ). below s n t (b * down e)) h ∙ below_times s t a b (down e) (down_pos e)

pub lt_worth : {x y : Float} {z w : ℤ} → Worth x z → Worth y w → lt x y ≡ lt_z z w
lt_worth h k = go (worth→value h) (worth→value k)
  where
    go : {x y : Float} {z w : ℤ} → Valued x z → Valued y w → lt x y ≡ lt_z z w
    go (valued {s} {a} h) (valued {s = t} {a = b} k) = lt_below h k ∙ below_signed s t a b
