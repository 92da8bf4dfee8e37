-- What the promises of the C calls share: the road of five numbers, both totals, a pointer's contents afterwards, a flag, a mode's byte.
use Rattle.std.specs.Prelude.{◌≡◌, Bool, ℕ, ◌≤◌, ◌<◌, eqb}
use Rattle.choice.specs.Choice.{pick}
use Rattle.road.specs.declared.Road.{Road}
use Rattle.scheme.specs.declared.many_steps.Totals.{Totals}

-- a road goes in as five numbers
abbrev pub road_of : ℕ → ℕ → ℕ → ℕ → ℕ → Road
road_of divisor free wave jam critical = record { divisor = divisor; free = free; wave = wave; jam = jam; critical = critical }

-- both totals stand behind two pointers
abbrev pub totals_of : ℕ → ℕ → Totals
totals_of entered left = record { entered = entered; left = left }

-- what stands behind a pointer afterwards: the value where the call's number is 0, else its former contents
abbrev pub written {ℓ} : {A : Type ℓ} → ℕ → A → A → A
written number value former = pick (eqb number 0) value former

-- 1 for true, 0 for false
abbrev pub flag_of : Bool → ℕ
flag_of b = pick b 1 0

-- a byte that serves for a mode given as a whole number: the number itself up to 7, and beyond 7 where the number is
pub record ModeByte (mode byte : ℕ) : Type 0 where
  pub low : mode ≤ 7 → byte ≡ mode
  pub high : 7 < mode → 7 < byte
