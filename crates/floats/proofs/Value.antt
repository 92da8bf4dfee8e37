-- A float is a whole number exactly when the library gives it that number's sign and size.
use mathlib.Core.Path.{◌≡◌, sym, ap, ap₂, ◌∙◌}
use mathlib.Core.Bool.{Bool}
use Prim.Native.Nat.{ℕ, ◌*◌}
use native.Mathlib.Nat.{mul-one, mul_assoc, mul_right_comm}
use lib.IntN.{ℤ}
use lib.Ieee.{Float, nan, inf, fin, up, down}
use lib.Ieee.Exact.{HasValue}
use lib.Ieee.Fits.{down_pos}
use Rattle.floats.specs.Worth.{signed, Worth, exactly}
use Rattle.floats.proofs.Signs.{signed_times, same_size, same_sign}

-- the float's sign is s, and its size is the whole number a
pub data Sized : Float → Bool → ℕ → Type 0 where
  sized : {s : Bool} {m : ℕ} {e : ℤ} {a : ℕ} → m * up e ≡ a * down e → Sized (fin s m e) s a

-- the same in the library's words
pub value→sized : {x : Float} {s : Bool} {a : ℕ} → HasValue x s a 1 → Sized x s a
value→sized {x = nan} v = absurd v
value→sized {x = inf t} v = absurd v
value→sized {x = fin t m e} v = rw (← v.0) (sized (sym (mul-one (m * up e)) ∙ v.1))

pub sized→worth : {x : Float} {s : Bool} {a : ℕ} → Sized x s a → Worth x (signed s a)
sized→worth (sized {s} {e} {a} h) = exactly (ap (signed s) h ∙ signed_times s a (down e))

-- a float that is the whole number z, with the sign and the size that make z
pub data Valued (x : Float) : ℤ → Type 0 where
  valued : {s : Bool} {a : ℕ} → Sized x s a → Valued x (signed s a)

pub worth→value : {x : Float} {z : ℤ} → Worth x z → Valued x z
worth→value (exactly {s} {m} {e} {z} h) =
    rw (← same_sign s (m * up e) (down e) z (down_pos e) h) (valued (sized (same_size s (m * up e) (down e) z h)))

-- two sizes over the product of their denominators, wherever they stand
pub over {ℓ} : {C : Type ℓ} (G : ℕ → ℕ → C) {m n : ℕ} (a c b d : ℕ) → m ≡ a * c → n ≡ b * d
    → G (m * d) (n * c) ≡ G (a * (c * d)) (b * (c * d))
over G a c b d h k =
    ap₂ G (ap (λ (x : ℕ). x * d) h ∙ mul_assoc a c d) (ap (λ (x : ℕ). x * c) k ∙ mul_right_comm b d c ∙ mul_assoc b c d)
