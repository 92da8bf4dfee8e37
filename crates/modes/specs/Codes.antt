-- The code of a mode in a list of modes, and the mode of a code, which is check 13 of the refusal table.
use Rattle.std.specs.Prelude.{◌≡◌, true, ℕ, Result, MatchResult}
use Rattle.refusal.specs.declared.Refusal.{Refusal}
use Rattle.refusal.specs.declared.Refusal.TheVariants as Refusals
use Rattle.road.specs.Judgement.{outside}
use Rattle.modes.specs.declared.mode.Mode.{Mode}
use Rattle.modes.specs.declared.mode.Mode.TheVariants.{WW, WL, LW, LD, DW, DL, DD}

abbrev pub code_of : Mode → ℕ
code_of WW = 1
code_of WL = 2
code_of LW = 3
code_of LD = 4
code_of DW = 5
code_of DL = 6
code_of DD = 7

-- the mode that has this code, or the refusal of a code outside 1 to 7
abbrev pub ModeOfCode : ℕ → Result Mode Refusal → Type 0
ModeOfCode code found = MatchResult found (λ mode. code_of mode ≡ code) (λ f. (f ≡ Refusals.Mode) × (outside 1 7 code ≡ true))
