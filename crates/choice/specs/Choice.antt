-- Choices by a test, and tests joined, as every definition above uses them.
use Rattle.std.specs.Prelude.{Bool, true, false}

-- the first where the test holds, else the second
abbrev pub pick {ℓ} : {A : Type ℓ} → Bool → A → A → A
pick true a b = a
pick false a b = b

-- one test or the other
abbrev pub or : Bool → Bool → Bool
or true b = true
or false b = b

-- both tests
abbrev pub both : Bool → Bool → Bool
both true b = b
both false b = false
