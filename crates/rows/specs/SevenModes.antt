-- The table of document 01, "Seven modes", printed line by line: one record, one field a line, each number pinned to its letters and its row.
use Rattle.std.specs.Prelude.{◌≡◌, List, [], ◌∷◌, ℕ, ◌*◌, ℤ, pos, negsuc, ◌+ℤ◌, length}
use Rattle.road.specs.declared.Road.{Road}
use Rattle.flux.specs.Face.{letter_w, letter_l, letter_d}
use Rattle.modes.specs.Modes.{mode_of}
use Rattle.rows.specs.Rows.{row_table, row_of, terms, dot, row_value}

-- the multipliers that are printed
abbrev pub +0 : ℤ
+0 = pos 0

abbrev pub +1 : ℤ
+1 = pos 1

abbrev pub −1 : ℤ
−1 = negsuc 0

-- the printed constants, each over the last three columns of `row_table`: q × C, p × C, q × J
abbrev pub no_constant : List ℤ
no_constant = +0 ∷ +0 ∷ +0 ∷ []

abbrev pub +qC : List ℤ
+qC = +1 ∷ +0 ∷ +0 ∷ []

abbrev pub −qC : List ℤ
−qC = −1 ∷ +0 ∷ +0 ∷ []

abbrev pub +pC : List ℤ
+pC = +0 ∷ +1 ∷ +0 ∷ []

abbrev pub −pC : List ℤ
−pC = +0 ∷ −1 ∷ +0 ∷ []

abbrev pub −qJ : List ℤ
−qJ = +0 ∷ +0 ∷ −1 ∷ []

-- a printed line: the two letters have this mode, and this mode has this row
abbrev pub Line : ℕ → ℕ → ℕ → ℤ → ℤ → ℤ → ℤ → List ℤ → Type 0
Line mode s t p-left p-own q-own q-right constant = (mode_of s t ≡ mode) × (row_of mode ≡ p-left ∷ p-own ∷ q-own ∷ q-right ∷ constant)

-- the columns: mode, letters, p × left, p × own, q × own, q × right, constant
pub record SevenModes : Type 0 where
  pub mode_1 : Line 1 letter_w letter_w +0 +0 −1 +1 no_constant
  pub mode_2 : Line 2 letter_w letter_l +0 +0 −1 +0 +qC
  pub mode_3 : Line 3 letter_l letter_w +0 +0 +0 +1 −qC
  pub mode_4 : Line 4 letter_l letter_d +0 −1 +0 +0 +pC
  pub mode_5 : Line 5 letter_d letter_w +1 +0 +0 +1 −qJ
  pub mode_6 : Line 6 letter_d letter_l +1 +0 +0 +0 −pC
  pub mode_7 : Line 7 letter_d letter_d +1 −1 +0 +0 no_constant
  -- and no other row
  pub seven : length row_table ≡ 7
  -- what the columns multiply
  pub columns : (r : Road) (left own right : ℕ)
      → terms r left own right
      ≡ pos (r.free * left) ∷ pos (r.free * own) ∷ pos (r.wave * own) ∷ pos (r.wave * right)
      ∷ pos (r.wave * r.critical) ∷ pos (r.free * r.critical) ∷ pos (r.wave * r.jam) ∷ []
  -- "Each row also has D × own. Its value is the density after one step, times D"
  pub value : (r : Road) (mode left own right : ℕ) → row_value r mode left own right ≡ pos (r.divisor * own) +ℤ dot (row_of mode) (terms r left own right)
