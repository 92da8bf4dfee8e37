-- Which inputs the ranking's checks refuse nothing of.
use mathlib.Core.List.{List, [], ◌∷◌}
use Prim.Native.Nat.{ℕ}
use lib.ListN.{length}
use Rattle.choice.specs.Choice.{or}
use Rattle.choice.proofs.Choice.{or_left, or_right, neither}
use Rattle.refusal.proofs.Calls.{Call}
use Rattle.road.specs.declared.Road.{Road}
use Rattle.checks.specs.Lists.{bad_output}
use Rattle.checks.specs.Places.{Placed}
use Rattle.checks.specs.State.{state_refusal}
use Rattle.checks.proofs.Checks.{output_long, output_passes}
use Rattle.checks.proofs.State.{state_call}
use Rattle.nearest.specs.Nearest.{nearest_checks, nearest_refusal, NearestChecked}

pub nearest_call : (r : Road) (cells : List ℕ) (up down numbers changes : ℕ)
    → Call (nearest_checks r cells up down numbers changes) (NearestChecked r cells up down numbers changes) (Placed r cells (up ∷ []) (down ∷ [])) (nearest_refusal r cells up down numbers changes)
unfolding nearest_refusal state_refusal
nearest_call r cells up down numbers changes =
    let n = length cells in
    state_call r cells up down (or (bad_output n numbers) (bad_output n changes))
    (λ s e. record {
      state = s;
      numbers_long = output_long n numbers (or_left (bad_output n numbers) (bad_output n changes) e);
      changes_long = output_long n changes (or_right (bad_output n numbers) (bad_output n changes) e);
    })
    (λ c. c.state)
    (λ c. neither (bad_output n numbers) (bad_output n changes) (output_passes n numbers c.numbers_long) (output_passes n changes c.changes_long))
