-- The checks of the row prediction, as document 01 lists them.
use Rattle.std.specs.Prelude.{List, [], ◌∷◌, ℕ, length}
use Rattle.refusal.specs.Table.{Check, judge}
use Rattle.road.specs.declared.Road.{Road}
use Rattle.refusal.specs.Outcome.{Outcome}
use Rattle.checks.specs.Checks.{output_check}
use Rattle.words.specs.Judging.{state_word_checks}

-- "row prediction 1–5 and 8–12"
abbrev pub predict_checks : Road → List ℕ → ℕ → ℕ → List ℕ → ℕ → List Check
predict_checks r cells up down word out = state_word_checks r cells up down word (output_check (length cells) out ∷ [])

unfoldable pub predict_refusal : Road → List ℕ → ℕ → ℕ → List ℕ → ℕ → Outcome
predict_refusal r cells up down word out = judge (predict_checks r cells up down word out)
