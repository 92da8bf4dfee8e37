-- The fit test: what demand 1 says of it, and what an accepted one made, from its contracts.
use mathlib.Core.Path.{◌∙◌, refl, sym, ap}
use mathlib.Core.Logic.{inr}
use mathlib.Core.List.{List, [], ◌∷◌}
use Prim.Native.Nat.{ℕ}
use lib.ListN.{length}
use Rattle.refusal.proofs.Table.{◌&◌}
use Rattle.road.specs.declared.Road.{Road}
use Rattle.modes.specs.Judging.{fit_checks, fit_refusal}
use Rattle.modes.specs.Fit.{fit_answer, Meaning, fit_meaning, FitState}
use Rattle.commission.specs.Outcome.{Outcome}
use Rattle.commission.specs.FitCall.{CalledFit, fit, welgadou_fit, AcceptedFit, FitMade}
use Rattle.commission.specs.Table.{cells, cell, up, down, word, AllNamed}
use Rattle.commission.proofs.Told.{value_of, former_of, word_places, road_named, Told, told_as, same_flag}

fit_named : (r : Road) (xs : List ℕ) (a b : ℕ) (letters : List ℕ) → AllNamed (fit_checks r xs a b letters)
fit_named r xs a b letters = road_named r (cells (length xs) & cell r xs & up r (a ∷ []) & down r (b ∷ []) & word (length xs) letters & tt)

pub fit_told : (o : Outcome) → CalledFit o → Told o
unfolding fit_refusal fit_answer fit_meaning
fit_told _ (fit {word = letters} c) = record {
  judged = told_as word_places c.judged;
  kept = λ n. tt;
  table = λ i. record { number = (c.means i).number; place = (c.means i).place };
  named = fit_named _ _ _ _ letters;
  numbers = refl;
  rise = inr (inr tt);
  made = λ z. (_, value_of _ _ (sym (ap (λ (m : Meaning). m.number) c.means) ∙ z) c.answer);
}
fit_told _ (welgadou_fit {word = letters} c) = record {
  judged = told_as word_places c.judged;
  kept = λ n. (former_of _ _ n c.holds_written, former_of _ _ n c.face_written);
  table = λ i. record { number = c.returned i; place = c.placed i };
  named = fit_named _ _ _ _ letters;
  numbers = refl;
  rise = inr (inr tt);
  made = λ z. let (b, same, says) = c.state z in (b, same);
}

pub fit_says : (x : AcceptedFit) → FitMade x
    → FitState x.road x.cells x.up x.down x.word (record { holds = x.holds; face = x.face })
fit_says _ (fit {f = f} c e) = c.state f e
fit_says _ (welgadou_fit {b = b} c z q) = let (d, same, says) = c.state z in rw (same_flag b d (sym q ∙ same)) says
