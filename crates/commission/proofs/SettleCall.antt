-- The settling run: what demand 1 says of it, and what an accepted one made, from its contracts.
use mathlib.Core.Path.{◌≡◌, ◌∙◌, refl, sym, ap, subst}
use mathlib.Core.Bool.{Bool}
use mathlib.Core.Logic.{inl, inr}
use mathlib.Core.List.{List, [], ◌∷◌}
use Prim.Native.Nat.{ℕ}
use lib.ListN.{length}
use borrow.Author.Tests.{eq-eqb}
use Rattle.refusal.proofs.Table.{◌&◌}
use Rattle.road.specs.declared.Road.{Road}
use Rattle.scheme.specs.Settling.{settle_cells}
use Rattle.scheme.specs.declared.many_steps.Totals.{Totals}
use Rattle.forecast.specs.Settle.{settle_checks, settle_refusal, settle_answer, settle_output, Meaning, meaning, settle_meaning, Settlement}
use Rattle.forecast.specs.ForEver.{site_after}
use Rattle.forecast.specs.Answers.{SettleAnswer}
use Rattle.commission.specs.Outcome.{Outcome}
use Rattle.commission.specs.SettleCall.{CalledSettle, settle, welgadou_settle, AcceptedSettling, settle_call_of, SettlingMade}
use Rattle.commission.specs.Table.{cells, horizon, output, caps, cell, up, down, AllNamed}
use Rattle.commission.proofs.Told.{value_of, former_of, value_places, road_named, Told, told_as, same_flag}

settle_named : (r : Road) (cs xs : List ℕ) (a b t out : ℕ) → AllNamed (settle_checks r cs xs a b t out)
settle_named r cs xs a b t out =
    road_named r
    (cells (length xs) & horizon t & output (length xs) out & caps (length xs) (length cs) & cell r xs & up r (a ∷ []) & down r (b ∷ []) & tt)

pub settle_told : (o : Outcome) → CalledSettle o → Told o
unfolding settle_refusal settle_answer settle_output settle_meaning
settle_told _ (settle {caps = cs} {t = t} c) = record {
  judged = told_as value_places c.judged;
  kept = λ n. former_of _ _ (λ z. n (ap (λ (m : Meaning). m.number) c.means ∙ z)) c.output;
  table = λ i. record { number = (c.means i).number; place = (c.means i).place };
  named = settle_named _ cs _ _ _ t _;
  numbers = refl;
  rise = inr (inl refl);
  made = λ z. (_, value_of _ _ (sym (ap (λ (m : Meaning). m.number) c.means) ∙ z) c.answer);
}
settle_told _ (welgadou_settle {caps = cs} {t = t} c) = record {
  judged = told_as value_places c.judged;
  kept = λ n. (former_of _ _ (λ z. n (c.returned ∙ z)) c.output, former_of _ _ n c.settled_written, former_of _ _ n c.steps_written);
  table = λ i. record { number = c.returned i; place = c.placed i };
  named = settle_named _ cs _ _ _ t _;
  numbers = refl;
  rise = inr (inl refl);
  made = λ z. let (b, same, says) = c.settlement z in (b, same);
}

pub settling_says : (x : AcceptedSettling) → SettlingMade x
    → Settlement x.road x.caps x.cells x.up x.down x.horizon x.next (record { settled = x.settled; steps = x.steps })
settling_says _ (settle {s = s} c e) = c.settlement s e
settling_says _ (welgadou_settle {b = b} c z q) = let (d, same, says) = c.settlement z in rw (same_flag b d (sym q ∙ same)) says

-- and what it hands on is what a chain is fed
record Hands (x : AcceptedSettling) : Type 0 where
  clear : (out : ℕ) → out ≡ length x.cells → (settle_refusal x.road x.caps x.cells x.up x.down x.horizon out).number ≡ 0
  next : x.next ≡ settle_cells x.road x.caps x.up x.down x.horizon x.cells

hands : (r : Road) (cs xs : List ℕ) (a b t : ℕ) (out : List ℕ) {next : List ℕ} → length out ≡ length xs → (settle_refusal r cs xs a b t (length out)).number ≡ 0
    → next ≡ settle_output r cs xs a b t out → {settled : Bool} {steps : ℕ}
    → Hands (record { road = r; caps = cs; cells = xs; up = a; down = b; horizon = t; next = next; settled = settled; steps = steps })
unfolding settle_output
hands r cs xs a b t out long none e = record {
  clear = λ n q. subst (λ (m : ℕ). (settle_refusal r cs xs a b t m).number ≡ 0) (long ∙ sym q) none;
  next = value_of _ _ none e;
}

settling_hands : (x : AcceptedSettling) → SettlingMade x → Hands x
unfolding settle_meaning
settling_hands _ (settle {r} {caps = cs} {cells = xs} {up = a} {down = b} {t} {out} c e) =
    hands r cs xs a b t out (c.judged.accepted (ap (λ (a : SettleAnswer). (meaning a).number) e)).output_long
    (sym (ap (λ (m : Meaning). m.number) c.means) ∙ ap (λ (a : SettleAnswer). (meaning a).number) e) c.output
settling_hands _ (welgadou_settle {r} {caps = cs} {cells = xs} {up = a} {down = b} {t} {out} c z q) = hands r cs xs a b t out (c.judged.accepted z).output_long (sym c.returned ∙ z) c.output

pub settling_feeds : (x : AcceptedSettling) → SettlingMade x → (totals : Totals) (out : List ℕ) → length out ≡ length x.cells
    → site_after x.road (record { cells = x.cells; totals = totals }) (settle_call_of x out) ≡ record { cells = x.next; totals = totals }
unfolding settle_answer settle_output
settling_feeds x c totals out long =
    let h = settling_hands x c in
    rw (eq-eqb _ 0 (h.clear (length out) long)) (λ i. record { cells = sym h.next i; totals = totals })
