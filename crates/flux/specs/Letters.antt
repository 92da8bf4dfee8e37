-- What is promised of a face's letter: it stands exactly in its region, and has the published flow.
use Rattle.std.specs.Prelude.{◌≡◌, ◌↔◌, ℕ, ◌-◌, ◌*◌, ◌≤◌, ◌<◌}
use Rattle.road.specs.declared.Road.{Road}
use Rattle.flux.specs.Face.{numerator, letter_w, letter_l, letter_d}

-- the regions as document 01 prints them; `printed_border` gives the form of source 004 (III.10)
abbrev pub InW : Road → ℕ → ℕ → Type 0
InW r a b = (r.critical < b) × (r.wave * (r.jam - b) < r.free * a)

abbrev pub InL : Road → ℕ → ℕ → Type 0
InL r a b = (r.critical < a) × (b ≤ r.critical)

abbrev pub InD : Road → ℕ → ℕ → Type 0
InD r a b = (a ≤ r.critical) × (r.free * a ≤ r.wave * (r.jam - b))

-- "A face has a letter exactly when its two densities lie in that region": the letter s of a face between a and b. It is W, L or D, and no two at
-- once since a letter is one number
pub record Lettered (r : Road) (a b s : ℕ) : Type 0 where
  pub known : s ≤ letter_d
  pub W : (s ≡ letter_w) ↔ InW r a b
  pub L : (s ≡ letter_l) ↔ InL r a b
  pub D : (s ≡ letter_d) ↔ InD r a b

-- the flow numerator of such a face, letter by letter (source 004 (II.10) times D)
pub record PublishedFlow (r : Road) (a b s : ℕ) : Type 0 where
  pub W : s ≡ letter_w → numerator r a b ≡ r.wave * (r.jam - b)
  pub L : s ≡ letter_l → numerator r a b ≡ r.free * r.critical
  pub D : s ≡ letter_d → numerator r a b ≡ r.free * a
