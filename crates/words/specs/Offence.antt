-- What a search of a word for its first offence hands back.
use Rattle.std.specs.Prelude.{◌≡◌, List, length, Option, MatchOption, ℕ, ◌<◌}
use Rattle.flux.specs.Face.{letter_d}
use Rattle.words.specs.Words.{first_offence}

-- the lowest face that offends, or none where the whole word is legal
abbrev pub FoundOffence : List ℕ → Option ℕ → Type 0
FoundOffence word found =
    MatchOption found (first_offence letter_d word ≡ length word) (λ face. (face < length word) × (first_offence letter_d word ≡ face))
