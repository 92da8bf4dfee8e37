-- A signed comparison of two numbers below 2^31 compares the numbers.
use mathlib.Core.Path.{◌≡◌, ap₂}
use Prim.Native.Nat.{ℕ, ◌^◌, ◌<◌}
use lib.Dec.{ltb}
use lib.Signed.{lt_z}
use mir.Syntax.{w32}
use mir.Val.{to_z}
use mir.ValLaws.{to_z_pos}

pub signed_less : (a b : ℕ) → a < 2 ^ 31 → b < 2 ^ 31 → lt_z (to_z w32 a) (to_z w32 b) ≡ ltb a b
signed_less a b p q = ap₂ lt_z (to_z_pos w32 a p) (to_z_pos w32 b q)
