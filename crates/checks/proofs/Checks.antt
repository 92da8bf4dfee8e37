-- What each check says where it does not refuse, and the other way round.
use mathlib.Core.Path.{◌≡◌, refl}
use mathlib.Core.Bool.{true, false, not}
use mathlib.Core.List.{List, [], ◌∷◌}
use Prim.Native.Nat.{ℕ, zero, suc, ◌+◌, ◌≤◌, ◌<◌, zero-le}
use lib.Dec.{eqb}
use lib.ListN.{get_or}
use borrow.Author.Tests.{eqb-true, eq-eqb, ltb-false, le-ltb, lt-ltb, not-false}
use Rattle.road.specs.Ceilings.{cells_ceiling, horizon_ceiling}
use Rattle.road.specs.declared.Road.{Road}
use Rattle.refusal.proofs.Table.{◌&◌}
use Rattle.choice.proofs.Choice.{or_left, or_right, neither}
use Rattle.road.proofs.Ranges.{from_low, to_high, inside}
use Rattle.checks.specs.Lists.{bad_cells, bad_horizon, bad_ends, bad_output, bad_caps}
use Rattle.checks.specs.Values.{first_index_above, any_above}
use Rattle.checks.proofs.First.{none_above}

-- two numbers that a test does not tell apart
equal_of_not_eqb : (a b : ℕ) → not (eqb a b) ≡ false → a ≡ b
equal_of_not_eqb a b e = eqb-true a b (not-false (eqb a b) e)

alike : (a b : ℕ) → a ≡ b → not (eqb a b) ≡ false
alike a b e = rw (eq-eqb a b e)

pub cells_low : (n : ℕ) → bad_cells n ≡ false → 1 ≤ n
cells_low n e = from_low 1 cells_ceiling n e

pub cells_high : (n : ℕ) → bad_cells n ≡ false → n ≤ cells_ceiling
cells_high n e = to_high 1 cells_ceiling n e

pub cells_pass : (n : ℕ) → 1 ≤ n → n ≤ cells_ceiling → bad_cells n ≡ false
cells_pass n l h = inside 1 cells_ceiling n l h

pub horizon_high : (t : ℕ) → bad_horizon t ≡ false → t ≤ horizon_ceiling
horizon_high t e = ltb-false horizon_ceiling t e

pub horizon_passes : (t : ℕ) → t ≤ horizon_ceiling → bad_horizon t ≡ false
horizon_passes t h = le-ltb horizon_ceiling t h

pub ups_long : (t ups downs : ℕ) → bad_ends t ups downs ≡ false → ups ≡ t
ups_long t ups downs e = equal_of_not_eqb ups t (or_left (not (eqb ups t)) (not (eqb downs t)) e)

pub downs_long : (t ups downs : ℕ) → bad_ends t ups downs ≡ false → downs ≡ t
downs_long t ups downs e = equal_of_not_eqb downs t (or_right (not (eqb ups t)) (not (eqb downs t)) e)

pub ends_pass : (t ups downs : ℕ) → ups ≡ t → downs ≡ t → bad_ends t ups downs ≡ false
ends_pass t ups downs u d = neither (not (eqb ups t)) (not (eqb downs t)) (alike ups t u) (alike downs t d)

pub output_long : (expected given : ℕ) → bad_output expected given ≡ false → given ≡ expected
output_long expected given e = equal_of_not_eqb given expected e

pub output_passes : (expected given : ℕ) → given ≡ expected → bad_output expected given ≡ false
output_passes expected given e = alike given expected e

pub caps_long : (cells caps : ℕ) → bad_caps cells caps ≡ false → caps ≡ cells + 1
caps_long cells caps e = equal_of_not_eqb caps (cells + 1) e

pub caps_pass : (cells caps : ℕ) → caps ≡ cells + 1 → bad_caps cells caps ≡ false
caps_pass cells caps e = alike caps (cells + 1) e

-- one density is below j where the list that holds it alone is
one_below : {j x : ℕ} → x ≤ j → (i : ℕ) → get_or (x ∷ []) i 0 ≤ j
one_below h zero = h
one_below h (suc i) = zero-le

-- one end, tested alone: what its check says, which is that of the list that holds it alone
pub end_above : {j x : ℕ} → j < x → (any_above j (x ∷ []) ≡ true) × (first_index_above j (x ∷ []) ≡ 0)
unfolding first_index_above
end_above {j} {x} h = rw (lt-ltb j x h) (refl, refl)

pub end_within : {j x : ℕ} → x ≤ j → any_above j (x ∷ []) ≡ false
end_within {j} {x} h = none_above j (x ∷ []) (one_below h)

-- the checks of one end pair, where no density is above jam, with what is known of the checks below
pub pair_passes : (r : Road) (cells : List ℕ) (up down : ℕ) → ((i : ℕ) → get_or cells i 0 ≤ r.jam) → up ≤ r.jam → down ≤ r.jam → {Below : Type 0} → Below
    → (any_above r.jam cells ≡ false) × ((any_above r.jam (up ∷ []) ≡ false) × ((any_above r.jam (down ∷ []) ≡ false) × Below))
pair_passes r cells up down c u d below =
    none_above r.jam cells c & none_above r.jam (up ∷ []) (one_below u) & none_above r.jam (down ∷ []) (one_below d) & below
