-- What a rounded flow and its exact partner owe each other: all that a run's promises need of them.
use Rattle.std.specs.Prelude.{◌≡◌, ℕ, ◌+◌, ◌*◌, ◌<◌}
use Rattle.flux.specs.Law.{Law}

-- a flow by face is lawful over every face, and one by step and face in every step
abbrev pub Lawful : ℕ → ℕ → ℕ → (ℕ → ℕ → ℕ → ℕ) → Type 0
Lawful m j c F = (i : ℕ) → Law m j c (F i)

abbrev pub AlwaysLawful : ℕ → ℕ → ℕ → (ℕ → ℕ → ℕ → ℕ → ℕ) → Type 0
AlwaysLawful m j c F = (t : ℕ) → Lawful m j c (F t)

-- F (face, upstream density, downstream density) moves the whole units of G (scale, then as F) at scale 1, D numerators a unit
pub record Partners (D j c : ℕ) (units : ℕ → ℕ) (F : ℕ → ℕ → ℕ → ℕ) (G : ℕ → ℕ → ℕ → ℕ → ℕ) : Type 0 where
  pub rounded : Lawful 1 j c F
  pub exact : (z : ℕ) → Lawful D (z * j) (z * c) (G z)
  -- k times the densities, at k times the scale, give k times the flow
  pub homogeneous : (k z i a b : ℕ) → G (k * z) i (k * a) (k * b) ≡ k * G z i a b
  pub whole : (i a b : ℕ) → F i a b ≡ units (G 1 i a b)
  -- the rounding errors of two flows differ by less than a unit
  pub spread : (f g : ℕ) → f + units g * D < g + units f * D + D
