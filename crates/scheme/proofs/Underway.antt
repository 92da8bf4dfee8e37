-- A run after t of its steps, for any lawful flow: the cells and the sums so far.
use mathlib.Core.Path.{◌≡◌, ◌∙◌, refl, sym, ap}
use mathlib.Core.List.{List, [], ◌∷◌}
use Prim.Native.Nat.{ℕ, suc, ◌+◌, ◌*◌, ◌≤◌, ◌<◌, min, zero-le}
use native.Mathlib.Nat.{le_trans}
use native.Mathlib.Numerals.{add-one}
use native.Mathlib.Omega.{arith}
use lib.ListN.{length, get_or, take}
use lib.Seq.{take_all}
use Rattle.road.specs.Ceilings.{jam_ceiling}
use Rattle.road.specs.declared.Road.{Road}
use Rattle.scheme.specs.Advance.{ahead, outflow, entering, leaving, stepped}
use Rattle.scheme.specs.Sums.{Below}
use Rattle.scheme.specs.Runs.{ran, summed, reached, entered_by, left_by}
use Rattle.scheme.specs.Partners.{Lawful, AlwaysLawful}
use Rattle.scheme.specs.Rounded.{moved, round_run, entered, left}
use Rattle.scheme.specs.Calls.{Stepped, Ran}
use Rattle.scheme.specs.declared.one_step.Moved.{Moved}
use Rattle.scheme.proofs.Shape.{stepped_length}
use Rattle.scheme.proofs.Range.{steps_below, out_holds}
use Rattle.scheme.proofs.Runs.{ran_more, summed_more}

pub record RunUnderway (j : ℕ) (F : ℕ → ℕ → ℕ → ℕ → ℕ) (ups downs old cells : List ℕ) (in_sum out_sum t : ℕ) : Type 0 where
  pub long : length cells ≡ length old
  pub below : Below j cells
  pub cells_now : cells ≡ reached (λ s. stepped 1 (F s)) t ups downs old
  pub entered_now : in_sum ≡ entered_by 1 F (take t ups) (take t downs) old
  pub left_now : out_sum ≡ left_by 1 F (take t ups) (take t downs) old
  pub in_small : in_sum ≤ t * jam_ceiling
  pub out_small : out_sum ≤ t * jam_ceiling

-- neither face moves more than jam in a step
module _ {j c : ℕ} {F : ℕ → ℕ → ℕ → ℕ} (laws : Lawful 1 j c F) where
  outflow_small : (i w d : ℕ) (xs : List ℕ) → Below j xs → w ≤ j → outflow F i w d xs ≤ j
  unfolding outflow
  outflow_small i w d [] h k = k
  outflow_small i w d (x ∷ xs) h k =
      outflow_small (suc i) (F i x (ahead d xs)) d xs (λ n. h (suc n)) (le_trans (out_holds laws i x (ahead d xs)) (h 0))

  entering_small : (u d : ℕ) (xs : List ℕ) → u ≤ j → entering F u d xs ≤ j
  unfolding entering
  entering_small u d xs h = le_trans (out_holds laws 0 u (ahead d xs)) h

  leaving_small : (u d : ℕ) (xs : List ℕ) → Below j xs → u ≤ j → leaving F u d xs ≤ j
  unfolding leaving
  leaving_small u d xs h k = outflow_small 1 (entering F u d xs) d xs h (entering_small u d xs k)

-- nor a run more than the ceiling of jam for each pair of its ends
pub run_small : {j c : ℕ} {F : ℕ → ℕ → ℕ → ℕ → ℕ} → AlwaysLawful 1 j c F → j ≤ jam_ceiling → (ups downs xs : List ℕ) → Below j ups → Below j xs
    → (entered_by 1 F ups downs xs ≤ length ups * jam_ceiling) × (left_by 1 F ups downs xs ≤ length ups * jam_ceiling)
unfolding summed
run_small laws high [] downs xs k h = (zero-le, zero-le)
run_small laws high (u ∷ ups) [] xs k h = (zero-le, zero-le)
run_small {F = F} laws high (u ∷ ups) (d ∷ downs) xs k h =
    let rest = run_small (λ t. laws (suc t)) high ups downs (stepped 1 (F 0) u d xs) (λ n. k (suc n)) (steps_below (laws 0) u d xs h) in
    (omega (arith, rest.0, entering_small (laws 0) u d xs (k 0)), omega (arith, rest.1, leaving_small (laws 0) u d xs h (k 0)))

pub begins : {j : ℕ} (F : ℕ → ℕ → ℕ → ℕ → ℕ) (ups downs old : List ℕ) → Below j old → RunUnderway j F ups downs old old 0 0 0
unfolding ran summed
begins F ups downs old h =
    record { long = refl; below = h; cells_now = refl; entered_now = refl; left_now = refl; in_small = zero-le; out_small = zero-le }

module _ {j c : ℕ} {F : ℕ → ℕ → ℕ → ℕ → ℕ} (laws : AlwaysLawful 1 j c F) (high : j ≤ jam_ceiling)
    {ups downs old xs : List ℕ} {in_sum out_sum t : ℕ} (now : RunUnderway j F ups downs old xs in_sum out_sum t) where
  turn : (ys : List ℕ) (m : Moved) → t < length ups → t < length downs → get_or ups t 0 ≤ j
      → Stepped (F t) (get_or ups t 0) (get_or downs t 0) xs ys m → RunUnderway j F ups downs old ys (in_sum + m.entered) (out_sum + m.left) (suc t)
  turn ys m hu hd k s =
      let u = get_or ups t 0 in
      let d = get_or downs t 0 in
      let S : ℕ → ℕ → ℕ → List ℕ → List ℕ = λ n. stepped 1 (F n) in
      record {
        long = ap length s.cells ∙ stepped_length 1 (F t) u d xs ∙ now.long;
        below = rw s.cells (steps_below (laws t) u d xs now.below);
        cells_now = s.cells ∙ ap (S t u d) now.cells_now ∙ sym (ran_more S t ups downs old hu hd);
        entered_now = omega (arith, now.entered_now, s.entered, rw (← now.cells_now) at (summed_more S (λ n. entering (F n)) t ups downs old hu hd));
        left_now = omega (arith, now.left_now, s.left, rw (← now.cells_now) at (summed_more S (λ n. leaving (F n)) t ups downs old hu hd));
        in_small = omega (arith, entering_small (laws t) u d xs k, s.entered, now.in_small);
        out_small = omega (arith, leaving_small (laws t) u d xs now.below k, s.left, now.out_small);
      }

  -- the same, with the ends, the sums and the number of steps as the code has them
  pub turns : (ys : List ℕ) (m : Moved) {u d more_in more_out n : ℕ} → t < length ups → t < length downs → u ≡ get_or ups t 0 → d ≡ get_or downs t 0 → u ≤ j
      → Stepped (F t) u d xs ys m → more_in ≡ m.entered → more_out ≡ m.left → n ≡ t + 1 → RunUnderway j F ups downs old ys (in_sum + more_in) (out_sum + more_out) n
  turns ys m hu hd up down k s ins outs n =
      rw (ins, outs, n, add-one t) (turn ys m hu hd (rw up at k) (rw (up, down) at s))

-- all steps made, on a road
pub ends : {r : Road} {caps ups downs old xs : List ℕ} {in_sum out_sum t : ℕ} → RunUnderway r.jam (λ s. moved r caps) ups downs old xs in_sum out_sum t
    → t ≡ min (length ups) (length downs) → length downs ≡ length ups → Ran r caps ups downs old xs record { entered = in_sum; left = out_sum }
unfolding round_run entered left
ends {ups = ups} {downs = downs} {t = t} now e same =
    let all = take_all t ups (omega arith) in
    let both = take_all t downs (omega arith) in
    record { cells = rw (all, both) at now.cells_now; entered = rw (all, both) at now.entered_now; left = rw (all, both) at now.left_now }
