-- One face of the triangular Godunov scheme: flow numerator, units moved, letter (document 01, "Flow and letter of a face").
use Rattle.std.specs.Prelude.{Bool, ℕ, ◌+◌, ◌-◌, ◌*◌, ◌/◌, ◌≤◌, ◌<◌, min, max, ltb, leb}
use Rattle.choice.specs.Choice.{pick, both}
use Rattle.road.specs.declared.Road.{Road}

-- what the upstream cell can send, times D: source 004 (II.8)
unfoldable pub sending : Road → ℕ → ℕ
sending r a = r.free * min a r.critical

-- what the downstream cell can receive, times D: source 004 (II.9)
unfoldable pub receiving : Road → ℕ → ℕ
receiving r b = r.wave * (r.jam - max b r.critical)

-- the flow numerator: the smaller of p × min(a, C) and q × (J − max(b, C)), source 004 (II.7) times D
unfoldable pub numerator : Road → ℕ → ℕ → ℕ
numerator r a b = min (sending r a) (receiving r b)

-- the units moved: the nearest whole number to a numerator divided by D, an exact half up (document 02, E2; document 01 rounded down)
unfoldable pub units : Road → ℕ → ℕ
units r f = (2 * f + r.divisor) / (2 * r.divisor)

-- u is the nearest whole number to f / d: f / d lies from u − ½, included, to u + ½, excluded. `units_nearest` shows it of the units, `nearest_once` of no other number
pub record NearestUnits (d f u : ℕ) : Type 0 where
  pub low : 2 * d * u ≤ 2 * f + d
  pub high : 2 * f + d < 2 * d * (u + 1)

-- the road with densities counted in parts of 1/Z unit: Z × J and Z × C in place of J and C
unfoldable pub scaled : ℕ → Road → Road
scaled z r = record { divisor = r.divisor; free = r.free; wave = r.wave; jam = z * r.jam; critical = z * r.critical }

-- the letters' codes
abbrev pub letter_w : ℕ
letter_w = 0

abbrev pub letter_l : ℕ
letter_l = 1

abbrev pub letter_d : ℕ
letter_d = 2

-- the regions of the letters, source 004 (III.10)
-- W: b > C and q × (J − b) < p × a
unfoldable pub in_w : Road → ℕ → ℕ → Bool
in_w r a b = both (ltb r.critical b) (ltb (r.wave * (r.jam - b)) (r.free * a))

-- L: a > C and b ≤ C
unfoldable pub in_l : Road → ℕ → ℕ → Bool
in_l r a b = both (ltb r.critical a) (leb b r.critical)

-- the letter of a face: W or L in their regions, and D in what is left, which `one_letter` shows to be its region (a ≤ C and q × (J − b) ≥ p × a)
unfoldable pub letter : Road → ℕ → ℕ → ℕ
letter r a b = pick (in_w r a b) letter_w (pick (in_l r a b) letter_l letter_d)
