-- The ranking of the next modes: what demand 1 says of it, and what an accepted one made, from its contracts.
use mathlib.Core.Path.{◌≡◌, ◌∙◌, refl, sym, ap, subst}
use mathlib.Core.Logic.{inr}
use Prim.Native.Nat.{ℕ, ◌-◌, ◌<◌}
use native.Mathlib.Omega.{arith}
use lib.IntN.{pos}
use lib.ListN.{length, get_or}
use Rattle.nearest.specs.Nearest.{alters, ranking, numbers_of, changes_of, nearest_refusal, nearest_answer, nearest_number, nearest_cells, nearest_changes, Smallest, Ranked}
use Rattle.commission.specs.Outcome.{Outcome}
use Rattle.commission.specs.NearestCall.{CalledNearest, nearest, welgadou_nearest, AcceptedRanking, RankingMade}
use Rattle.commission.proofs.Told.{value_of, former_of, value_places, two_outputs_named, Told, told_as}

pub nearest_told : (o : Outcome) → CalledNearest o → Told o
unfolding nearest_refusal nearest_answer nearest_cells nearest_changes
nearest_told _ (nearest {cells = xs} {numbers = ns} {changes = zs} c) = record {
  judged = told_as value_places c.judged;
  kept = λ n. (former_of _ _ (λ z. n (c.number ∙ z)) c.numbers_written, former_of _ _ (λ z. n (c.number ∙ z)) c.changes_written);
  table = λ i. record { number = c.number i; place = c.place i };
  named = two_outputs_named _ xs _ _ (length xs) (length ns) (length xs) (length zs);
  numbers = refl;
  rise = inr (inr tt);
  made = λ z. value_of _ _ (sym c.number ∙ z) c.answer;
}
nearest_told _ (welgadou_nearest {cells = xs} {numbers = ns} {changes = zs} c) = record {
  judged = told_as value_places c.judged;
  kept = λ n. (former_of _ _ (λ z. n (c.returned ∙ z)) c.numbers_written, former_of _ _ (λ z. n (c.returned ∙ z)) c.changes_written);
  table = λ i. record { number = c.returned i; place = c.placed i };
  named = two_outputs_named _ xs _ _ (length xs) (length ns) (length xs) (length zs);
  numbers = refl;
  rise = inr (inr tt);
  made = λ z. tt;
}

pub ranking_says : (x : AcceptedRanking) → RankingMade x → Ranked x.road x.up x.down x.cells x.numbers x.changes
ranking_says _ (nearest c e) = c.ranked e
ranking_says _ (welgadou_nearest c z) = c.ranked z

pub ranking_equals : (x : AcceptedRanking) → RankingMade x
    → (x.numbers ≡ numbers_of (ranking x.road x.up x.down x.cells)) × (x.changes ≡ changes_of (ranking x.road x.up x.down x.cells))
unfolding nearest_cells nearest_changes
ranking_equals _ (nearest c e) =
    let z = sym c.number ∙ ap nearest_number e in
    (value_of _ _ z c.numbers_written, value_of _ _ z c.changes_written)
ranking_equals _ (welgadou_nearest c z) = (value_of _ _ (sym c.returned ∙ z) c.numbers_written, value_of _ _ (sym c.returned ∙ z) c.changes_written)

-- each change is its cell's own, and that is the smallest
pub change_says : (x : AcceptedRanking) → RankingMade x → (k : ℕ) → k < length x.cells → let i = get_or x.numbers k 0 - 1 in
    Smallest (alters x.road x.up x.down x.cells i) x.road.jam (get_or x.cells i 0) (get_or x.changes k (pos 0))
change_says x c k h =
    let ranked = ranking_says x c in
    let (low, high) = ranked.within k h in
    let i = get_or x.numbers k 0 - 1 in
    subst (Smallest (alters x.road x.up x.down x.cells i) x.road.jam (get_or x.cells i 0)) (sym (ranked.own k h)) (ranked.exists i (omega arith))
