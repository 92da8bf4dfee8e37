-- The bytes of a bitmap file: 8 bits a pixel, a palette of 256 colours, the lowest row first, rows filled up to four bytes.
use Rattle.std.specs.Prelude.{List, [], ◌∷◌, ℕ, ◌+◌, ◌-◌, ◌*◌, ◌/◌, ◌%◌, min, max, ltb, eqb, get_or}
use Rattle.choice.specs.Choice.{pick}
use Rattle.cli_picture.specs.Colours.{blue_of, green_of, red_of}

-- how many pixels each of `count` takes: target / count, but at least 1 and at most 32
abbrev pub scale_of : ℕ → ℕ → ℕ
scale_of count target = pick (eqb count 0) 1 (max 1 (min 32 (target / count)))

-- a row's bytes: one a pixel, filled up to a multiple of four
abbrev pub row_bytes : ℕ → ℕ
row_bytes width = (width + 3) / 4 * 4

-- byte i of a number of four bytes, the lowest first
abbrev pub byte_of : ℕ → ℕ → ℕ
byte_of n i = get_or (n % 256 ∷ n / 256 % 256 ∷ n / 65536 % 256 ∷ n / 16777216 % 256 ∷ []) i 0

-- the thirteen numbers after the letters BM: the file's size; 0; where the rows start; the size of what follows, 40; width; height;
-- 1 plane and 8 bits a pixel, in one number; no compression; the rows' size; pixels a metre across and upward; colours; 0
abbrev pub header_words : ℕ → ℕ → ℕ → List ℕ
header_words pixels width height =
    (pixels + 1078) ∷ 0 ∷ 1078 ∷ 40 ∷ width ∷ height ∷ 524289 ∷ 0 ∷ pixels ∷ 2835 ∷ 2835 ∷ 256 ∷ 0 ∷ []

unfoldable pub header_word : ℕ → ℕ → ℕ → ℕ
header_word width height k = get_or (header_words (row_bytes width * height) width height) k 0

-- the palette: blue, green, red and a zero for each shade
unfoldable pub palette_byte : ℕ → ℕ
palette_byte k = get_or (blue_of (k / 4) ∷ green_of (k / 4) ∷ red_of (k / 4) ∷ 0 ∷ []) (k % 4) 0

-- the letters B and M
abbrev pub letter_byte : ℕ → ℕ
letter_byte at = get_or (66 ∷ 77 ∷ []) at 0

-- byte `at` of the file, up to its first row: letters, numbers, palette
unfoldable pub start_byte : ℕ → ℕ → ℕ → ℕ
start_byte width height at =
    pick (ltb at 2) (letter_byte at)
    (pick (ltb at 54) (byte_of (header_word width height ((at - 2) / 4)) ((at - 2) % 4))
    (pick (ltb at 1078) (palette_byte (at - 54)) 0))

-- the shade at pixel x of a cell's row, each step `across` pixels wide; 0 past the last step
unfoldable pub pixel_of : List ℕ → ℕ → ℕ → ℕ
pixel_of shades across x = pick (eqb across 0) 0 (get_or shades (x / across) 0)
