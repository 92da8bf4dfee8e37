-- The forecast: what demand 1 says of it, and what an accepted one made, from its contracts.
use mathlib.Core.Path.{◌≡◌, ◌∙◌, refl, sym, ap, ap₂, subst}
use mathlib.Core.Logic.{inl}
use mathlib.Core.List.{List, ◌++◌}
use Prim.Native.Nat.{ℕ, ◌+◌}
use native.Mathlib.Omega.{arith}
use lib.ListN.{length}
use borrow.Author.Tests.{eq-eqb}
use Rattle.refusal.proofs.Table.{◌&◌}
use Rattle.road.specs.declared.Road.{Road}
use Rattle.scheme.specs.Sums.{sum}
use Rattle.scheme.specs.Rounded.{round_run, entered, left}
use Rattle.scheme.proofs.Parts.{run_parts, entered_parts, left_parts}
use Rattle.scheme.specs.ByFaces.{RunByFaces}
use Rattle.scheme.specs.declared.many_steps.Totals.{Totals}
use Rattle.forecast.specs.Answers.{ForecastAnswer}
use Rattle.forecast.specs.Forecast.{own_of, increased, forecast_checks, forecast_refusal, forecast_answer, forecast_cells, Meaning, meaning, forecast_meaning, Fits, Demand3}
use Rattle.forecast.specs.Chain.{after_call}
use Rattle.forecast.proofs.Chain.{feeds}
use Rattle.commission.specs.Outcome.{Outcome}
use Rattle.commission.specs.ForecastCall.{CalledForecast, forecast, welgadou_forecast, AcceptedForecast, ForecastMade, site_before, call_of, site_left, Continued, ForecastChain, commissioned, fed}
use Rattle.commission.specs.Table.{cells, horizon, ends, output, caps, cell, up, down, total, AllNamed}
use Rattle.commission.proofs.Told.{value_of, former_of, value_places, road_named, Told, told_as}

forecast_named : (r : Road) (cs xs ups downs : List ℕ) (t : ℕ) (totals : Totals) (out : ℕ) → AllNamed (forecast_checks r cs xs ups downs t totals out)
forecast_named r cs xs ups downs t totals out =
    road_named r
    (cells (length xs) & horizon t & ends t (length ups) (length downs) & output (length xs) out & caps (length xs) (length cs)
    & cell r xs & up r ups & down r downs & total totals (own_of r cs xs ups downs) & tt)

pub forecast_told : (o : Outcome) → CalledForecast o → Told o
unfolding forecast_refusal forecast_answer forecast_cells forecast_meaning
forecast_told _ (forecast c) = record {
  judged = told_as value_places c.judged;
  kept = λ n. former_of _ _ (λ z. n (ap (λ (m : Meaning). m.number) c.means ∙ z)) c.output;
  table = λ i. record { number = (c.means i).number; place = (c.means i).place };
  named = forecast_named _ _ _ _ _ _ _ _;
  numbers = refl;
  rise = inl refl;
  made = λ z. (_, value_of _ _ (sym (ap (λ (m : Meaning). m.number) c.means) ∙ z) c.answer);
}
forecast_told _ (welgadou_forecast c) = record {
  judged = told_as value_places c.judged;
  kept = λ n. (former_of _ _ (λ z. n (c.returned ∙ z)) c.output, former_of _ _ n c.entered_written, former_of _ _ n c.left_written, former_of _ _ n c.total_entered_written, former_of _ _ n c.total_left_written);
  table = λ i. record { number = c.returned i; place = c.placed i };
  named = forecast_named _ _ _ _ _ _ _ _;
  numbers = refl;
  rise = inl refl;
  made = λ z. tt;
}

-- an accepted forecast: demand 3, its steps face by face, its sums, and the totals
pub record ForecastSays (x : AcceptedForecast) : Type 0 where
  pub caps_long : length x.caps ≡ length x.cells + 1
  pub demand3 : Demand3 x.road x.caps x.cells x.ups x.downs x.horizon x.next x.entered x.left
  pub by_faces : RunByFaces x.road x.caps x.ups x.downs x.cells x.next x.entered x.left
  pub in_sum : x.entered ≡ entered x.road x.caps x.ups x.downs x.cells
  pub out_sum : x.left ≡ left x.road x.caps x.ups x.downs x.cells
  pub carried : x.totals_next ≡ increased x.totals (record { entered = x.entered; left = x.left })
  pub fits : Fits x.totals (own_of x.road x.caps x.cells x.ups x.downs)
  pub clear : (out : ℕ) → out ≡ length x.cells → (forecast_refusal x.road x.caps x.cells x.ups x.downs x.horizon x.totals out).number ≡ 0

pub forecast_says : (x : AcceptedForecast) → ForecastMade x → ForecastSays x
unfolding forecast_meaning
forecast_says _ (forecast {r} {caps} {cells} {ups} {downs} {t} {totals} {d = d} c e) =
    let m = ap meaning (sym e) ∙ c.means in
    let none = sym (ap (λ (x : Meaning). x.number) m) in
    let checked = c.judged.accepted (ap (λ (x : ForecastAnswer). (meaning x).number) e) in
    record {
      caps_long = checked.input.caps_long;
      demand3 = c.demand3 d e;
      by_faces = c.by_faces d e;
      in_sum = value_of _ _ none (ap (λ (x : Meaning). x.entered) m);
      out_sum = value_of _ _ none (ap (λ (x : Meaning). x.left) m);
      carried = c.carried d e;
      fits = checked.fits;
      clear = λ out q. subst (λ (n : ℕ). (forecast_refusal r caps cells ups downs t totals n).number ≡ 0) (checked.input.output_long ∙ sym q) none;
    }
forecast_says _ (welgadou_forecast {r} {caps} {cells} {ups} {downs} {t} {totals} c z) =
    let none = sym c.returned ∙ z in
    record {
      caps_long = (c.judged.accepted z).input.caps_long;
      demand3 = c.demand3 z;
      by_faces = c.by_faces z;
      in_sum = value_of _ _ none (value_of _ _ z c.entered_written);
      out_sum = value_of _ _ none (value_of _ _ z c.left_written);
      carried = c.carried z;
      fits = (c.judged.accepted z).fits;
      clear = λ out q. subst (λ (n : ℕ). (forecast_refusal r caps cells ups downs t totals n).number ≡ 0) ((c.judged.accepted z).input.output_long ∙ sym q) none;
    }

-- and what it hands on is what a chain is fed
pub forecast_feeds : (x : AcceptedForecast) → ForecastMade x → (out : List ℕ) → length out ≡ length x.cells → after_call (site_before x) (call_of x out) ≡ site_left x
forecast_feeds x c out long =
    let says = forecast_says x c in
    feeds (site_before x) (call_of x out) (eq-eqb _ 0 (says.clear (length out) long)) ∙ sym (λ i. record {
      cells = says.demand3.after_steps i;
      totals = (says.carried ∙ (λ j. increased x.totals (record { entered = says.in_sum j; left = says.out_sum j }))) i;
    })

-- what a run comes to, of the second part as it was made, from the cells of the first
continued : {A : Type 0} (G : Road → List ℕ → List ℕ → List ℕ → List ℕ → A) (first second : AcceptedForecast) → Continued first second → {cells : List ℕ} → first.next ≡ cells
    → G second.road second.caps second.ups second.downs second.cells ≡ G first.road first.caps second.ups second.downs cells
continued G first second p e = λ i. G (p.same_road i) (p.same_caps i) second.ups second.downs ((p.fed_cells ∙ e) i)

pub parts_say : (first : AcceptedForecast) → ForecastMade first → (second : AcceptedForecast) → ForecastMade second → Continued first second
    → (second.next ≡ round_run first.road first.caps (first.ups ++ second.ups) (first.downs ++ second.downs) first.cells)
    × (first.entered + second.entered ≡ entered first.road first.caps (first.ups ++ second.ups) (first.downs ++ second.downs) first.cells)
    × (first.left + second.left ≡ left first.road first.caps (first.ups ++ second.ups) (first.downs ++ second.downs) first.cells)
parts_say first d second e p =
    let a = forecast_says first d in
    let b = forecast_says second e in
    let long = a.demand3.ups_long ∙ sym a.demand3.downs_long in
    let mid = a.demand3.after_steps in (
      b.demand3.after_steps ∙ continued round_run first second p mid
          ∙ sym (run_parts first.road first.caps first.ups first.downs second.ups second.downs first.cells long),
      ap₂ ◌+◌ a.in_sum (b.in_sum ∙ continued entered first second p mid)
          ∙ sym (entered_parts first.road first.caps first.ups first.downs second.ups second.downs first.cells long),
      ap₂ ◌+◌ a.out_sum (b.out_sum ∙ continued left first second p mid)
          ∙ sym (left_parts first.road first.caps first.ups first.downs second.ups second.downs first.cells long),
    )

pub whole_parts_say : (whole : AcceptedForecast) → ForecastMade whole → (first second : AcceptedForecast) → ForecastMade first → ForecastMade second → Continued first second
    → whole.road ≡ first.road → whole.caps ≡ first.caps → whole.cells ≡ first.cells → whole.ups ≡ first.ups ++ second.ups → whole.downs ≡ first.downs ++ second.downs
    → (whole.next ≡ second.next) × (whole.entered ≡ first.entered + second.entered) × (whole.left ≡ first.left + second.left)
whole_parts_say whole c first second d e p r cs xs us ds =
    let w = forecast_says whole c in
    let (next, ins, outs) = parts_say first d second e p in (
      w.demand3.after_steps ∙ (λ i. round_run (r i) (cs i) (us i) (ds i) (xs i)) ∙ sym next,
      w.in_sum ∙ (λ i. entered (r i) (cs i) (us i) (ds i) (xs i)) ∙ sym ins,
      w.out_sum ∙ (λ i. left (r i) (cs i) (us i) (ds i) (xs i)) ∙ sym outs,
    )

-- a call adds its own units to the totals, and demand 3 balances these
pub chain_balances : {first cells : List ℕ} {totals : Totals} → ForecastChain first cells totals → sum first + totals.entered ≡ sum cells + totals.left
chain_balances commissioned = refl
chain_balances (fed before x c same-cells same-totals) =
    let says = forecast_says x c in
    let now = says.demand3.balanced in
    let then = chain_balances before in
    let units = ap sum same-cells in
    let ins : x.totals_next.entered ≡ x.totals.entered + x.entered = ap (λ (t : Totals). t.entered) says.carried in
    let outs : x.totals_next.left ≡ x.totals.left + x.left = ap (λ (t : Totals). t.left) says.carried in
    let in-before = ap (λ (t : Totals). t.entered) same-totals in
    let out-before = ap (λ (t : Totals). t.left) same-totals in
    omega arith
