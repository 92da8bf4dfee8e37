-- The reading: what demand 1 says of it, and what an accepted one made, from its contracts.
use mathlib.Core.Path.{◌∙◌, refl, sym, ap}
use mathlib.Core.Logic.{inr}
use Prim.Native.Nat.{◌+◌}
use lib.ListN.{length}
use Rattle.modes.specs.Judging.{read_refusal}
use Rattle.modes.specs.Answers.{StateReading}
use Rattle.modes.specs.Reading.{read_answer, read_letters, read_modes, ReadState}
use Rattle.commission.specs.Outcome.{Outcome}
use Rattle.commission.specs.ReadCall.{CalledRead, read, welgadou_read, AcceptedReading, ReadingMade}
use Rattle.commission.proofs.Told.{value_of, former_of, value_places, two_outputs_named, Told, told_as}

pub read_told : (o : Outcome) → CalledRead o → Told o
unfolding read_refusal read_answer read_letters read_modes
read_told _ (read {cells = xs} {letters = ls} {modes = ms} c) = record {
  judged = told_as value_places c.judged;
  kept = λ n. (former_of _ _ (λ z. n (c.number ∙ z)) c.letters_written, former_of _ _ (λ z. n (c.number ∙ z)) c.modes_written);
  table = λ i. record { number = c.number i; place = c.place i };
  named = two_outputs_named _ xs _ _ (length xs + 1) (length ls) (length xs) (length ms);
  numbers = refl;
  rise = inr (inr tt);
  made = λ z. ap (λ (x : StateReading). x.answer) (value_of _ _ (sym c.number ∙ z) c.answer);
}
read_told _ (welgadou_read {cells = xs} {letters = ls} {modes = ms} c) = record {
  judged = told_as value_places c.judged;
  kept = λ n. (
    former_of _ _ (λ z. n (c.returned ∙ z)) c.letters_written,
    former_of _ _ (λ z. n (c.returned ∙ z)) c.modes_written,
    former_of _ _ n c.counts_written,
    former_of _ _ n c.queued_written,
  );
  table = λ i. record { number = c.returned i; place = c.placed i };
  named = two_outputs_named _ xs _ _ (length xs + 1) (length ls) (length xs) (length ms);
  numbers = refl;
  rise = inr (inr tt);
  made = λ z. tt;
}

pub reading_says : (x : AcceptedReading) → ReadingMade x
    → ReadState x.road x.cells x.up x.down x.letters x.modes (record { modes = x.counts; queued = x.queued })
reading_says _ (read c e) = c.state e
reading_says _ (welgadou_read c z) = c.state z
