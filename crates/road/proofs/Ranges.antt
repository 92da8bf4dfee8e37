-- A number in its range: what the test says of it, and when it passes.
use mathlib.Core.Path.{◌≡◌}
use mathlib.Core.Bool.{false}
use Prim.Native.Nat.{ℕ, ◌≤◌}
use lib.Dec.{ltb}
use borrow.Author.Tests.{ltb-false, le-ltb}
use Rattle.choice.proofs.Choice.{or_left, or_right, neither}
use Rattle.road.specs.Judgement.{outside}

-- a number that is not outside its range
pub from_low : (low high x : ℕ) → outside low high x ≡ false → low ≤ x
from_low low high x e = ltb-false x low (or_left (ltb x low) (ltb high x) e)

pub to_high : (low high x : ℕ) → outside low high x ≡ false → x ≤ high
to_high low high x e = ltb-false high x (or_right (ltb x low) (ltb high x) e)

pub inside : (low high x : ℕ) → low ≤ x → x ≤ high → outside low high x ≡ false
inside low high x l h = neither (ltb x low) (ltb high x) (le-ltb x low l) (le-ltb high x h)
