-- The flows of both schemes are partners on every accepted road, under every list of caps: what the general theorems of this crate ask.
use mathlib.Core.Path.{◌≡◌, ◌∙◌, sym, ap, ap₂}
use mathlib.Core.List.{List}
use Prim.Native.Nat.{ℕ, ◌*◌, min}
use native.Mathlib.Nat.{one-mul, mul-one, mul_left_comm}
use lib.ListN.{length, get_or}
use Rattle.road.specs.Judgement.{Accepted}
use Rattle.road.specs.declared.Road.{Road}
use Rattle.flux.specs.Face.{numerator, units, scaled}
use Rattle.flux.specs.declared.pace.Pace.{Pace}
use Rattle.flux.proofs.Laws.{capped_law, moved_law, scaled_law, accepted_sound}
use Rattle.flux.proofs.Rounding.{units_spread, units_cap}
use Rattle.flux.proofs.Scaling.{min_times, homogeneous, scaled_one}
use Rattle.scheme.specs.Advance.{stepped}
use Rattle.scheme.specs.Sums.{Below}
use Rattle.scheme.specs.Partners.{Lawful, Partners}
use Rattle.scheme.specs.Rounded.{moved}
use Rattle.scheme.specs.Exact.{exact_flow, exact_step}
use Rattle.scheme.specs.Calls.{Ready}

-- the exact flow at scale 1: the smaller of the flow numerator and the cap × D
abbrev pub whole : Road → List ℕ → ℕ → ℕ → ℕ → ℕ
whole r caps face a b = min (numerator r a b) (get_or caps face 0 * r.divisor)

whole_one : (r : Road) (caps : List ℕ) → exact_flow r caps 1 ≡ whole r caps
whole_one r caps i face a b = min (numerator (scaled_one r i) a b) (get_or caps face 0 * mul-one r.divisor i)

pub exact_step_one : (r : Road) (caps : List ℕ) (u d : ℕ) (xs : List ℕ) → exact_step r caps 1 u d xs ≡ stepped r.divisor (whole r caps) u d xs
exact_step_one r caps u d xs = rw (one-mul u, one-mul d) (ap (λ (F : ℕ → ℕ → ℕ → ℕ). stepped r.divisor F u d xs) (whole_one r caps))

-- what a face moves are the whole units of that flow: the cap of k units is a cap of k × D on the numerator
pub moved_is : (r : Road) → Accepted r → (caps : List ℕ) (i a b : ℕ) → moved r caps i a b ≡ units r (whole r caps i a b)
moved_is r ok caps i a b = sym (units_cap r ok.divisor_low (numerator r a b) (get_or caps i 0))

-- k times the densities, at k times the scale, give k times the flow: so of the numerator and of the cap × D × Z
pub capped_homogeneous : (r : Road) (caps : List ℕ) (k z i a b : ℕ) → exact_flow r caps (k * z) i (k * a) (k * b) ≡ k * exact_flow r caps z i a b
capped_homogeneous r caps k z i a b =
    let cap = get_or caps i 0 in
    ap₂ min (homogeneous k z r a b) (ap (λ (x : ℕ). cap * x) (mul_left_comm r.divisor k z) ∙ mul_left_comm cap k (r.divisor * z))
    ∙ min_times k (numerator (scaled z r) a b) (cap * (r.divisor * z))

pub partners : (r : Road) (caps : List ℕ) → Accepted r → Partners r.divisor r.jam r.critical (units r) (moved r caps) (exact_flow r caps)
partners r caps ok = record {
  rounded = λ i. capped_law (moved_law r ok) (get_or caps i 0);
  exact = λ z i. capped_law (scaled_law z r (accepted_sound ok)) (get_or caps i 0 * (r.divisor * z));
  homogeneous = capped_homogeneous r caps;
  whole = λ i a b. moved_is r ok caps i a b ∙ ap (λ (F : ℕ → ℕ → ℕ → ℕ). units r (F i a b)) (sym (whole_one r caps));
  spread = units_spread r ok.divisor_low;
}

-- the rounded flow of a pace is lawful, its road being accepted
pub lawful : (p : Pace) (caps : List ℕ) → Lawful 1 p.road.road.jam p.road.road.critical (moved p.road.road caps)
lawful p caps = (partners p.road.road caps p.road.accepted).rounded

-- where a call is ready the next one is, with as many cells in range
pub ready_again : {p : Pace} {caps xs ys : List ℕ} {up down : ℕ} → Ready p caps xs up down → length ys ≡ length xs → Below p.road.road.jam ys → Ready p caps ys up down
ready_again h e below =
    record { caps_long = rw e h.caps_long; some = rw e h.some; below = below; up_high = h.up_high; down_high = h.down_high }
