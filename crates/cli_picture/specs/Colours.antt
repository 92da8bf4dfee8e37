-- The shade of a density and the colour of a shade.
use Rattle.std.specs.Prelude.{ℕ, ◌-◌, ◌*◌, ◌/◌, min, ltb}
use Rattle.choice.specs.Choice.{pick}

-- 255 × density / jam, rounded down, below jam; 255 at jam and above
abbrev pub shade_of : ℕ → ℕ → ℕ
shade_of density jam = pick (ltb density jam) (255 * density / jam) 255

-- a part of a colour: 255 up to the shade where it starts to fall, then 3 less for each shade, down to 0
abbrev pub channel_of : ℕ → ℕ → ℕ
channel_of start shade = 255 - min 255 (3 * (shade - start))

abbrev pub blue_of : ℕ → ℕ
blue_of = channel_of 0

abbrev pub green_of : ℕ → ℕ
green_of = channel_of 85

abbrev pub red_of : ℕ → ℕ
red_of = channel_of 170
