-- Check 12 of the refusal table, and the checks of a call with one end pair and a word, as document 01 lists them.
use Rattle.std.specs.Prelude.{Bool, not, List, [], ◌∷◌, ◌++◌, ℕ, ◌+◌, eqb, length}
use Rattle.choice.specs.Choice.{pick, or}
use Rattle.refusal.specs.Table.{Check, check, judge}
use Rattle.refusal.specs.Outcome.{Outcome}
use Rattle.road.specs.declared.Road.{Road}
use Rattle.checks.specs.Checks.{pair_checks}
use Rattle.checks.specs.State.{state_shape_checks}
use Rattle.flux.specs.Face.{letter_d}
use Rattle.words.specs.Words.{first_offence, legal}

-- 12: length not n+1; unknown code; illegal pair
abbrev pub bad_word : ℕ → List ℕ → Bool
bad_word n word = or (not (eqb (length word) (n + 1))) (not (legal word))

-- its place: n+1 for the length, before anything else; otherwise the lowest face that is an unknown code or the second of an illegal pair
abbrev pub word_place : ℕ → List ℕ → ℕ
word_place n word = pick (eqb (length word) (n + 1)) (first_offence letter_d word) (n + 1)

abbrev pub word_check : ℕ → List ℕ → Check
word_check n word = check (bad_word n word) 12 (word_place n word)

-- checks 9 to 12 of a call with one end pair and a word
abbrev pub pair_word_checks : Road → List ℕ → ℕ → ℕ → List ℕ → List Check
pair_word_checks r cells up down word = pair_checks r cells up down ++ (word_check (length cells) word ∷ [])

-- "fit 1–5 and 9–12", "row prediction 1–5 and 8–12": a state's checks, with 8 of a call that has outputs, and the word's
abbrev pub state_word_checks : Road → List ℕ → ℕ → ℕ → List ℕ → List Check → List Check
state_word_checks r cells up down word outputs = state_shape_checks r (length cells) outputs ++ pair_word_checks r cells up down word

-- what they come to, where it is known whether the outputs are bad
unfoldable pub state_word_refusal : Road → List ℕ → ℕ → ℕ → List ℕ → Bool → Outcome
state_word_refusal r cells up down word bad = judge (state_word_checks r cells up down word (check bad 8 0 ∷ []))
