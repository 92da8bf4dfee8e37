-- The code of a letter in a list of letters.
use Rattle.std.specs.Prelude.{ℕ}
use Rattle.flux.specs.Face.{letter_w, letter_l, letter_d}
use Rattle.flux.specs.declared.letter.Letter.{Letter}
use Rattle.flux.specs.declared.letter.Letter.TheVariants.{W, L, D}

abbrev pub code_of : Letter → ℕ
code_of W = letter_w
code_of L = letter_l
code_of D = letter_d
