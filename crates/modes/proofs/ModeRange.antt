-- Every mode has a code from 1 to 7, and every pair of letters such a mode, by a test that antt computes.
use mathlib.Core.Bool.{Bool}
use Prim.Native.Nat.{ℕ, ◌≤◌}
use native.Mathlib.Omega.{arith}
use lib.Dec.{T, leb, leb→le}
use Rattle.choice.specs.Choice.{both}
use Rattle.choice.proofs.Choice.{both_left, both_right}
use Rattle.choice.proofs.Grid.{upto, grid_at}
use Rattle.flux.specs.Face.{letter_d}
use Rattle.modes.specs.Modes.{mode_of}
use Rattle.modes.specs.Codes.{code_of}
use Rattle.modes.specs.declared.mode.Mode.{Mode}
use Rattle.modes.specs.declared.mode.Mode.TheVariants.{WW, WL, LW, LD, DW, DL, DD}

-- a pair of letters has a mode from 1 to 7
numbered : ℕ → ℕ → Bool
numbered s t = both (leb 1 (mode_of s t)) (leb (mode_of s t) 7)

modes_numbered : T (upto 3 (λ s. upto 3 (numbered s)))
unfolding numbered mode_of
modes_numbered = tt

pub mode_range : (s t : ℕ) → s ≤ letter_d → t ≤ letter_d → (1 ≤ mode_of s t) × (mode_of s t ≤ 7)
unfolding numbered
mode_range s t h g =
    let passed = grid_at 3 3 numbered modes_numbered s t (omega arith) (omega arith) in
    let low = leb 1 (mode_of s t) in
    let high = leb (mode_of s t) 7 in
    (leb→le 1 (mode_of s t) (both_left low high passed), leb→le (mode_of s t) 7 (both_right low high passed))

-- every mode's code is so too
pub code_range : (m : Mode) → (1 ≤ code_of m) × (code_of m ≤ 7)
code_range WW = (omega arith, omega arith)
code_range WL = (omega arith, omega arith)
code_range LW = (omega arith, omega arith)
code_range LD = (omega arith, omega arith)
code_range DW = (omega arith, omega arith)
code_range DL = (omega arith, omega arith)
code_range DD = (omega arith, omega arith)
