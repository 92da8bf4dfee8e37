-- The version: three numbers, and the one number that C asks for.
use Rattle.std.specs.Prelude.{ℕ, ◌+◌, ◌*◌}

abbrev pub major : ℕ
major = 0

abbrev pub minor : ℕ
minor = 11

abbrev pub patch : ℕ
patch = 0

-- 0.11.0 is 1100: ten thousand a major, a hundred a minor version
abbrev pub version_number : ℕ
version_number = major * 10000 + minor * 100 + patch
