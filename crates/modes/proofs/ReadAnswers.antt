-- The reading's promise, refused and accepted, from what its parts hand back.
use mathlib.Core.Path.{◌≡◌, ◌∙◌, refl, sym, ap}
use mathlib.Core.Bool.{Bool, true≢false}
use mathlib.Core.List.{List}
use Prim.Native.Nat.{ℕ, ◌+◌, ◌≤◌}
use native.Mathlib.Omega.{arith}
use lib.ListN.{length}
use Rattle.road.specs.Ceilings.{cells_ceiling}
use Rattle.road.specs.declared.Road.{Road}
use Rattle.refusal.specs.Outcome.{Outcome}
use Rattle.refusal.proofs.Calls as Calls
use Rattle.scheme.specs.Word.{word_of}
use Rattle.scheme.proofs.Faces.{word_length}
use Rattle.modes.specs.Modes.{modes_of}
use Rattle.modes.specs.Judging.{read_refusal}
use Rattle.modes.specs.Reading.{counts_of, queued_of, counts_for, read_answer, read_letters, read_modes, ReadChecked, Reads}
use Rattle.modes.specs.Answers.{ReadAnswer, StateReading, no_counts, reading_of}
use Rattle.refusal.specs.Answer.{Done, Refused, outcome_of}
use Rattle.refusal.specs.Table.{passed}
use Rattle.refusal.specs.declared.Refusal.{Refusal}
use Rattle.refusal.proofs.Results.{numbered}
use Rattle.choice.specs.Choice.{or}
use Rattle.checks.specs.Lists.{bad_output}
use Rattle.checks.specs.State.{state_refusal}
use Rattle.std.specs.Prelude.{IsErrAnd, Result}
use Rattle.std.proofs.lemmas.Result.{err_from_is_err_and}
use Rattle.modes.specs.declared.reading.Counts.{Counts}
use Rattle.modes.proofs.TalliedModes.{state_modes_length}
use Rattle.modes.proofs.ReadJudging.{read_call}
use Rattle.modes.proofs.ReadState.{read_state}

-- an answer beside its counts
abbrev reading : ReadAnswer → Counts → StateReading
reading a c = record { answer = a; counts = c }

module _ (r : Road) (cells : List ℕ) (up down : ℕ) (letters modes : List ℕ) where
  -- refused: the number and place of the table, no counts, and the former contents
  pub refused : (f : Outcome) → f ≡ read_refusal r cells up down (length letters) (length modes) → (f.number ≡ 0 → ⊥)
      → Reads r cells up down letters letters modes modes (reading (Refused f) no_counts)
  unfolding read_answer read_letters read_modes
  refused f e n =
      let k = Calls.refuses (read_call r cells up down (length letters) (length modes)) e n in
      record {
        answer = rw k.no (ap (λ (g : Outcome). reading (Refused g) no_counts) e);
        number = ap (λ (g : Outcome). g.number) e;
        place = ap (λ (g : Outcome). g.place) e;
        letters_written = rw k.no refl;
        modes_written = rw k.no refl;
        judged = k.judged;
        state = λ q. absurd (true≢false (cc q));
      }

  -- the judgement of a state, whose check 8 is that of both outputs, is the reading's
  module _ (bad : Bool) (eight : bad ≡ or (bad_output (length cells + 1) (length letters)) (bad_output (length cells) (length modes))) where
    judgement : state_refusal r cells up down bad ≡ read_refusal r cells up down (length letters) (length modes)
    unfolding read_refusal state_refusal
    judgement = ap (state_refusal r cells up down) eight

    -- so that a refusal of it is refused, and what passed it is checked
    pub refused_by : (f : Refusal) (a : Result Counts Refusal) → IsErrAnd a (λ g. g ≡ f) → outcome_of f ≡ state_refusal r cells up down bad
        → Reads r cells up down letters letters modes modes (reading_of a)
    refused_by f a is_err e =
        let p = err_from_is_err_and a is_err in
        rw (p.1, p.2) (refused (outcome_of f) (e ∙ judgement) (λ z. let n = numbered f in omega arith))

    pub passes : passed ≡ state_refusal r cells up down bad → (read_refusal r cells up down (length letters) (length modes)).number ≡ 0
    passes e = sym (ap (λ (g : Outcome). g.number) (e ∙ judgement))

  -- accepted: the word, its modes and their counts
  module _ (e : (read_refusal r cells up down (length letters) (length modes)).number ≡ 0) where
    pub checked : ReadChecked r cells up down (length letters) (length modes)
    checked = Calls.checked (read_call r cells up down (length letters) (length modes)) e

    module _ (word : List ℕ) (lettered : word ≡ word_of r up down cells) where
      -- what the modes' writing asks
      pub word_long : length word ≡ length modes + 1
      word_long = let w = ap length lettered ∙ word_length r up down cells in let m = checked.modes_long in omega arith

      module _ (ms : List ℕ) (moded : ms ≡ modes_of word) where
        modes_are : ms ≡ modes_of (word_of r up down cells)
        modes_are = moded ∙ ap modes_of lettered

        -- what the tally asks
        pub few_modes : length ms ≤ cells_ceiling
        few_modes = let n = ap length modes_are ∙ state_modes_length r up down cells in let h = checked.state.cells_high in omega arith

        pub done : (counts : List ℕ) (queued : ℕ) → counts ≡ counts_of ms → queued ≡ queued_of r.critical cells
            → Reads r cells up down letters word modes ms (reading (Done tt) (record { modes = counts; queued = queued }))
        unfolding read_answer read_letters read_modes
        done counts queued tallied above =
            let k = Calls.accepts (read_call r cells up down (length letters) (length modes)) e in
            let c : Counts = record { modes = counts; queued = queued } in
            let counted : c ≡ counts_for r cells ms = λ j. record { modes = tallied j; queued = above j } in
            record {
              answer = rw k.yes (ap (reading (Done tt)) (counted ∙ ap (counts_for r cells) modes_are));
              number = sym (ap (λ (g : Outcome). g.number) k.nothing);
              place = sym (ap (λ (g : Outcome). g.place) k.nothing);
              letters_written = rw k.yes lettered;
              modes_written = rw k.yes modes_are;
              judged = k.judged;
              state = λ q. read_state r cells up down (length letters) (length modes) checked word ms c lettered moded counted;
            }
