-- The bytes of a text of ASCII letters, as a list has them.
use Rattle.std.specs.Prelude.{List, [] as none, ◌∷◌ as ◌before◌, ℕ}
use Prim.Native.Char.{code}
use Prim.Native.String.{String, [], ◌∷◌}

unfoldable pub ascii : String → List ℕ
ascii [] = none
ascii (c ∷ s) = code c before ascii s
