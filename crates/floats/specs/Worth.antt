-- Floats that are whole numbers, and the tests of an estimate.
use Rattle.std.specs.Prelude.{◌≡◌, Bool, true, false, ℕ, ◌*◌, ◌≤◌, ◌<◌, ℤ, pos, neg_ℤ, ◌*ℤ◌, Float}
use Rattle.std.specs.Float.{fin, Format}
use Rattle.std.specs.Float.Ieee.{up, down, lt, ne, of_int, of_bits}

-- a, below zero where s is true
abbrev pub signed : Bool → ℕ → ℤ
signed false a = pos a
signed true a = neg_ℤ (pos a)

-- The float is exactly the whole number z. A NaN and an infinity are no number, and both zeros are 0.
pub data Worth : Float → ℤ → Type 0 where
  exactly : {s : Bool} {m : ℕ} {e z : ℤ} → signed s (m * up e) ≡ z *ℤ pos (down e) → Worth (fin s m e) z

-- The float is a finite number from 0 to j: times `down e` it is a whole number a from 0 to j × down e. A NaN and an infinity are none, and −0.0 is 0.
pub data FiniteUpTo (j : ℕ) : Float → Type 0 where
  finite : {s : Bool} {m a : ℕ} {e : ℤ} → signed s (m * up e) ≡ pos a → a ≤ j * down e → FiniteUpTo j (fin s m e)

-- The float is a finite number from c to j, both included: times `down e` it is a whole number a from c × down e to j × down e. A NaN and an infinity are none.
pub data FiniteFrom (c j : ℕ) : Float → Type 0 where
  finite_from : {s : Bool} {m a : ℕ} {e : ℤ} → signed s (m * up e) ≡ pos a → c * down e ≤ a → a ≤ j * down e → FiniteFrom c j (fin s m e)

-- The float is a finite number not below 0: times `down e` it is a whole number from 0 on. A NaN and an infinity are none, and −0.0 is 0.
pub data NotBelow0 : Float → Type 0 where
  not_below : {s : Bool} {m a : ℕ} {e : ℤ} → signed s (m * up e) ≡ pos a → NotBelow0 (fin s m e)

-- The float is a finite number above 0: times `down e` it is a whole number from 1 on.
pub data Above0 : Float → Type 0 where
  above : {s : Bool} {m a : ℕ} {e : ℤ} → signed s (m * up e) ≡ pos a → 1 ≤ a → Above0 (fin s m e)

-- The float is a finite number from 0 on and below p: times `down e` it is a whole number below p × down e.
pub data SlowerThan (p : ℕ) : Float → Type 0 where
  slower : {s : Bool} {m a : ℕ} {e : ℤ} → signed s (m * up e) ≡ pos a → a < p * down e → SlowerThan p (fin s m e)

-- What the tests `x != x`, `x < 0.0` and `x > j` leave where none of them refuses x: for a j up to 2 ^ prec f the finite
-- numbers from 0 to j, as `finite_of_passes` and `passes_of_finite` show.
pub record Passes (f : Format) (j : ℕ) (x : Float) : Type 0 where
  pub known : ne x x ≡ false
  pub low : lt x (of_bits f 0) ≡ false
  pub high : lt (of_int f (pos j)) x ≡ false
