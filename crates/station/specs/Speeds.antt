-- Why a lone speed has the density that E1 gives it, and why only below the free speed: source 004 (II.3), times D and times the density.
use Rattle.std.specs.Prelude.{◌≡◌, ℕ, ◌+◌, ◌-◌, ◌*◌, ◌≤◌, ◌<◌}
use Rattle.road.specs.declared.Road.{Road}
use Rattle.flux.specs.Face.{numerator}

-- what is asked of a road here. An accepted road has it (`accepted_balanced`), and has it however finely its numbers are counted (`finer_balanced`)
pub record Balanced (r : Road) : Type 0 where
  pub wave_low : 1 ≤ r.wave
  pub critical_low : 1 ≤ r.critical
  pub critical_high : r.critical < r.jam
  pub balance : r.free * r.critical ≡ r.wave * (r.jam - r.critical)

-- the road with the numerators of its speeds counted in parts of 1/m and its densities in parts of 1/z: k there is the speed k/(m × D), and ρ the density ρ/z
abbrev pub finer : ℕ → ℕ → Road → Road
finer m z r = record { divisor = m * r.divisor; free = m * r.free; wave = m * r.wave; jam = z * r.jam; critical = z * r.critical }

-- traffic of density ρ everywhere, from 1 to jam, moves at k/D: its flow, times D, is k × ρ
abbrev pub Moves : Road → ℕ → ℕ → Type 0
Moves r k ρ = numerator r ρ ρ ≡ k * ρ

-- of a speed k/D and the density ρ that E1 gives it: q × J divided by (k + q), that is (k + q) × ρ = q × J
pub record SpeedDensity (r : Road) (k ρ : ℕ) : Type 0 where
  pub within : ρ ≤ r.jam
  -- what (II.3) says above the critical density, here of every k: below the critical density it is that line prolonged
  pub line : r.wave * (r.jam - ρ) ≡ k * ρ
  pub moves : r.critical < ρ → Moves r k ρ
  -- the speeds below the free speed are those whose density is above the critical one
  pub slow_dense : k < r.free → r.critical < ρ
  pub dense_slow : r.critical < ρ → k < r.free

-- "faster traffic has no single density": which densities, from 1 to jam, move at a speed
pub record OneDensity (r : Road) : Type 0 where
  -- below the free speed at most one: that which E1 gives, if it is whole. Counted finely enough it is (`some_density`)
  pub only : (k ρ : ℕ) → k < r.free → 1 ≤ ρ → ρ ≤ r.jam → Moves r k ρ → (k + r.wave) * ρ ≡ r.wave * r.jam
  pub one : (k ρ σ : ℕ) → (k + r.wave) * ρ ≡ r.wave * r.jam → (k + r.wave) * σ ≡ r.wave * r.jam → ρ ≡ σ
  -- at the free speed every density up to the critical one moves
  pub free : (ρ : ℕ) → ρ ≤ r.critical → Moves r r.free ρ
  -- and faster none does
  pub none : (k ρ : ℕ) → r.free < k → 1 ≤ ρ → Moves r k ρ → ⊥
