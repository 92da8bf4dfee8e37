-- The checks of reading and fit test, as document 01 lists them.
use Rattle.std.specs.Prelude.{List, [], ◌∷◌, ℕ, ◌+◌, length}
use Rattle.refusal.specs.Table.{Check, judge}
use Rattle.road.specs.declared.Road.{Road}
use Rattle.refusal.specs.Outcome.{Outcome}
use Rattle.checks.specs.Checks.{outputs_check}
use Rattle.checks.specs.State.{state_checks}
use Rattle.words.specs.Judging.{state_word_checks}

-- "reading 1–5 and 8–11": both outputs judged by 8, n+1 letters and n modes
abbrev pub read_checks : Road → List ℕ → ℕ → ℕ → ℕ → ℕ → List Check
read_checks r cells up down letters modes = state_checks r cells up down (outputs_check (length cells + 1) letters (length cells) modes ∷ [])

unfoldable pub read_refusal : Road → List ℕ → ℕ → ℕ → ℕ → ℕ → Outcome
read_refusal r cells up down letters modes = judge (read_checks r cells up down letters modes)

-- "fit 1–5 and 9–12"
abbrev pub fit_checks : Road → List ℕ → ℕ → ℕ → List ℕ → List Check
fit_checks r cells up down word = state_word_checks r cells up down word []

unfoldable pub fit_refusal : Road → List ℕ → ℕ → ℕ → List ℕ → Outcome
fit_refusal r cells up down word = judge (fit_checks r cells up down word)
