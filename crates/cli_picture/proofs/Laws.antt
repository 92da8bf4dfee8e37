-- What a reader of the picture counts on: the ends of the shades, their order, and the order of the colours.
use mathlib.Core.Path.{◌≡◌}
use Prim.Native.Nat.{ℕ, ◌+◌, ◌*◌, ◌/◌, ◌≤◌, ◌<◌}
use native.Mathlib.Nat.{zero-div, mul-div-le, le-div_iff_mul-le, mul_comm}
use native.Mathlib.Omega.{arith}
use borrow.Author.Tests.{lt-ltb, le-ltb}
use Rattle.cli_picture.specs.Colours.{shade_of, channel_of, blue_of, green_of, red_of}

-- an empty cell has shade 0, and a full one 255
pub empty_is_0 : (jam : ℕ) → 0 < jam → shade_of 0 jam ≡ 0
empty_is_0 jam h = simp (lt-ltb 0 jam h, zero-div jam)

pub jam_is_255 : (jam : ℕ) → shade_of jam jam ≡ 255
jam_is_255 jam = simp (le-ltb jam jam (omega arith))

-- below jam a denser cell is at least as dark; from jam on the shade is 255, the darkest
pub shade_rises : (d e jam : ℕ) → d ≤ e → e < jam → shade_of d jam ≤ shade_of e jam
shade_rises d e jam h k =
    let part = mul-div-le (255 * d) jam in
    let turned = mul_comm jam (255 * d / jam) in
    let small : 255 * d / jam ≤ 255 * e / jam =
    (le-div_iff_mul-le {k = jam} {x = 255 * d / jam} {y = 255 * e} (omega arith)).1 (omega arith) in
    simp (lt-ltb d jam (omega arith), lt-ltb e jam k) small

-- a part of a colour never rises with the shade, so neither does the brightness
pub channel_falls : (start s t : ℕ) → s ≤ t → channel_of start t ≤ channel_of start s
channel_falls start s t h = omega arith

pub brightness_falls : (s t : ℕ) → s ≤ t → red_of t + green_of t + blue_of t ≤ red_of s + green_of s + blue_of s
brightness_falls s t h = omega (arith, channel_falls 0 s t h, channel_falls 85 s t h, channel_falls 170 s t h)
