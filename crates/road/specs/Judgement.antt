-- The judgement of a road: checks 1 to 4 of the refusal table, and what an accepted road is.
use Rattle.std.specs.Prelude.{◌≡◌, Bool, not, List, [], ◌∷◌, ℕ, ◌-◌, ◌*◌, ◌≤◌, ◌<◌, eqb, ltb}
use Rattle.choice.specs.Choice.{or}
use Rattle.road.specs.Ceilings.{divisor_ceiling, jam_ceiling}
use Rattle.refusal.specs.Table.{Check, check, judge}
use Rattle.road.specs.declared.Road.{Road}
use Rattle.refusal.specs.Outcome.{Outcome}

-- a number outside its range, both ends included in the range
abbrev pub outside : ℕ → ℕ → ℕ → Bool
outside low high x = or (ltb x low) (ltb high x)

-- 1: D is 0 or above its ceiling
abbrev pub bad_divisor : Road → Bool
bad_divisor r = outside 1 divisor_ceiling r.divisor

-- 2: p or q is 0 or above D
abbrev pub bad_speeds : Road → Bool
bad_speeds r = or (outside 1 r.divisor r.free) (outside 1 r.divisor r.wave)

-- 3: J or C outside its range
abbrev pub bad_densities : Road → Bool
bad_densities r = or (outside 2 jam_ceiling r.jam) (outside 1 (r.jam - 1) r.critical)

-- 4: p × C differs from q × (J − C)
abbrev pub unbalanced : Road → Bool
unbalanced r = not (eqb (r.free * r.critical) (r.wave * (r.jam - r.critical)))

-- the checks "Road" of the table: all report place 0
abbrev pub divisor_check : Road → Check
divisor_check r = check (bad_divisor r) 1 0

abbrev pub speeds_check : Road → Check
speeds_check r = check (bad_speeds r) 2 0

abbrev pub densities_check : Road → Check
densities_check r = check (bad_densities r) 3 0

abbrev pub balance_check : Road → Check
balance_check r = check (unbalanced r) 4 0

abbrev pub road_checks : Road → List Check
road_checks r = divisor_check r ∷ speeds_check r ∷ densities_check r ∷ balance_check r ∷ []

-- the lowest of them that applies
unfoldable pub road_refusal : Road → Outcome
road_refusal r = judge (road_checks r)

-- a road that document 01 allows, sentence by sentence
pub record Accepted (r : Road) : Type 0 where
  -- D, the divisor, 1 to its ceiling
  pub divisor_low : 1 ≤ r.divisor
  pub divisor_high : r.divisor ≤ divisor_ceiling
  -- p and q, each 1 to D
  pub free_low : 1 ≤ r.free
  pub free_high : r.free ≤ r.divisor
  pub wave_low : 1 ≤ r.wave
  pub wave_high : r.wave ≤ r.divisor
  -- J, the jam density, 2 to its ceiling
  pub jam_low : 2 ≤ r.jam
  pub jam_high : r.jam ≤ jam_ceiling
  -- C, the critical density, 1 to J − 1
  pub critical_low : 1 ≤ r.critical
  pub critical_high : r.critical < r.jam
  -- p × C = q × (J − C)
  pub balance : r.free * r.critical ≡ r.wave * (r.jam - r.critical)
