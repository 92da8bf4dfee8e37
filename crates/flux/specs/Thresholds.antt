-- Where a cell's own density parts the letters of its two faces: one threshold a face. No density lies above a left threshold of jam.
use Rattle.std.specs.Prelude.{◌≡◌, ℕ, ◌+◌, ◌-◌, ◌/◌, ◌≤◌, ◌<◌}
use Rattle.road.specs.declared.Road.{Road}
use Rattle.flux.specs.Face.{sending, receiving}

-- of the left face, with density a upstream: J − ⌈what is sent / q⌉, the highest density at which the cell receives all that is sent
unfoldable pub left_threshold : Road → ℕ → ℕ
left_threshold r a = r.jam - (sending r a + (r.wave - 1)) / r.wave

-- of the right face, with density b downstream: what is received / p, rounded down, the highest density x at which p × x is received whole
unfoldable pub right_threshold : Road → ℕ → ℕ
right_threshold r b = receiving r b / r.free

-- a letter as the own density has it, up to j: one letter up to the threshold t, another above
pub record Split (j t : ℕ) (letterAt : ℕ → ℕ) (low high : ℕ) : Type 0 where
  pub apart : low ≡ high → ⊥
  pub up_to : (x : ℕ) → x ≤ t → letterAt x ≡ low
  pub above : (x : ℕ) → t < x → x ≤ j → letterAt x ≡ high
