-- The ceilings of document 01, "The road and its units", that of the horizon as document 02, E9, moved it. The constants of `Road` are tied to these by contract; no other crate of the library repeats them.
use Rattle.std.specs.Prelude.{ℕ}

-- cells: n from 1 to 256
abbrev pub cells_ceiling : ℕ
cells_ceiling = 256

-- horizon: T from 0 to 1,440 steps, "for settling runs too and in place of Level 1's 4,096" (document 02, E9)
abbrev pub horizon_ceiling : ℕ
horizon_ceiling = 1440

-- divisor: D from 1 to 4,096
abbrev pub divisor_ceiling : ℕ
divisor_ceiling = 4096

-- jam density: J from 2 to 1,000,000
abbrev pub jam_ceiling : ℕ
jam_ceiling = 1000000

-- word counts: up to 40 cells
abbrev pub count_ceiling : ℕ
count_ceiling = 40
