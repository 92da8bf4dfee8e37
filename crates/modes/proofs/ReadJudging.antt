-- Which inputs the reading's checks refuse nothing of.
use mathlib.Core.List.{List, [], ◌∷◌}
use Prim.Native.Nat.{ℕ, ◌+◌}
use lib.ListN.{length}
use Rattle.choice.specs.Choice.{or}
use Rattle.choice.proofs.Choice.{or_left, or_right, neither}
use Rattle.refusal.proofs.Calls.{Call}
use Rattle.road.specs.declared.Road.{Road}
use Rattle.checks.specs.Lists.{bad_output}
use Rattle.checks.specs.Places.{Placed}
use Rattle.checks.specs.State.{state_refusal}
use Rattle.checks.proofs.Checks.{output_long, output_passes}
use Rattle.checks.proofs.State.{state_call}
use Rattle.modes.specs.Judging.{read_checks, read_refusal}
use Rattle.modes.specs.Reading.{ReadChecked}

pub read_call : (r : Road) (cells : List ℕ) (up down letters modes : ℕ)
    → Call (read_checks r cells up down letters modes) (ReadChecked r cells up down letters modes) (Placed r cells (up ∷ []) (down ∷ [])) (read_refusal r cells up down letters modes)
unfolding read_refusal state_refusal
read_call r cells up down letters modes =
    let n = length cells in
    state_call r cells up down (or (bad_output (n + 1) letters) (bad_output n modes))
    (λ s e. record {
      state = s;
      letters_long = output_long (n + 1) letters (or_left (bad_output (n + 1) letters) (bad_output n modes) e);
      modes_long = output_long n modes (or_right (bad_output (n + 1) letters) (bad_output n modes) e);
    })
    (λ c. c.state)
    (λ c. neither (bad_output (n + 1) letters) (bad_output n modes) (output_passes (n + 1) letters c.letters_long) (output_passes n modes c.modes_long))
