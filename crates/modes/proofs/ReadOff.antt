-- Every legal word is read off a state that the reading accepts.
use mathlib.Core.Path.{◌≡◌, ◌∙◌, sym, ap}
use mathlib.Core.Bool.{true}
use mathlib.Core.List.{List}
use Prim.Native.Nat.{ℕ, ◌+◌, ◌≤◌}
use native.Mathlib.Omega.{arith}
use lib.ListN.{length}
use Rattle.road.specs.Ceilings.{cells_ceiling}
use Rattle.road.specs.Judgement.{Accepted}
use Rattle.road.specs.declared.Road.{Road}
use Rattle.refusal.proofs.Calls.{accepts_checked}
use Rattle.words.specs.Words.{legal}
use Rattle.modes.specs.ReadOff.{upstream_of, downstream_of, cells_of}
use Rattle.modes.specs.Reading.{read_answer, ReadChecked}
use Rattle.modes.specs.ReadOff.{ReadOff}
use Rattle.refusal.specs.Answer.{Done}
use Rattle.modes.specs.Answers.{StateReading}
use Rattle.modes.proofs.Occurs.{occurs}
use Rattle.modes.proofs.ReadJudging.{read_call}

-- from 1 cell on, up to the ceiling, every legal word is what the reading writes of a state that it accepts, on every accepted road
module _ (r : Road) (ok : Accepted r) (word : List ℕ) (allowed : legal word ≡ true) (low : 2 ≤ length word) (high : length word ≤ cells_ceiling + 1) where
  pub state_accepted : ReadChecked r (cells_of r word) (upstream_of r word) (downstream_of r word) (length word) (length (cells_of r word))
  state_accepted =
      let o = occurs r ok word allowed (omega arith) in
      let n = o.cells in
      record {
        state = record {
          accepted = ok;
          cells_low = omega arith;
          cells_high = omega arith;
          cells_below = o.below;
          up_below = o.upstream;
          down_below = o.downstream;
        };
        letters_long = sym o.cells;
        modes_long = omega arith;
      }

  -- nothing of it is refused, so the reading is made and its letters are the state's word
  pub read_off : ReadOff r word
  unfolding read_answer
  read_off = record {
    own = (occurs r ok word allowed (omega arith)).same;
    checked = state_accepted;
    written = λ letters next-letters modes next_modes a reads l m.
        let none = accepts_checked (read_call r (cells_of r word) (upstream_of r word) (downstream_of r word) (length word) (length (cells_of r word))) state_accepted in
        let made : a.answer ≡ Done tt = ap (λ (s : StateReading). s.answer) (rw (l, m, none) at reads.answer) in
        (made, (reads.state made).word ∙ (occurs r ok word allowed (omega arith)).same);
  }
