-- Open caps: one for each face, and no less than any flow, so that a face under them moves its rounded flow.
use mathlib.Core.Path.{◌≡◌, ◌∙◌}
use mathlib.Core.List.{List, [], ◌∷◌, ◌++◌}
use Prim.Native.Nat.{ℕ, zero, suc, ◌+◌, ◌*◌, ◌≤◌, min, zero-le}
use native.Mathlib.Nat.{mul_comm, mul_assoc, mul-le-mul_left, min-eq_left}
use native.Mathlib.Omega.{arith}
use lib.ListN.{get_or, get_or-replicate}
use Rattle.road.specs.Judgement.{Accepted}
use Rattle.road.specs.declared.Road.{Road}
use Rattle.flux.specs.Face.{numerator, units, scaled}
use Rattle.flux.proofs.Laws.{numerator_law, scaled_law, at_most_critical, accepted_sound}
use Rattle.flux.proofs.Rounding.{units_at_most}
use Rattle.scheme.specs.Advance.{padded}
use Rattle.scheme.specs.Sums.{Below}
use Rattle.scheme.specs.Rounded.{moved, open_cap, open_caps}

-- the densities with both ghost cells are in range where the cells and the ends are
pub padded_below : {j up down : ℕ} (xs : List ℕ) → up ≤ j → down ≤ j → Below j xs → Below j (padded up down xs)
unfolding padded
padded_below xs u d h zero = u
padded_below {j} {down = down} xs u d h (suc k) = after xs h k
  where
    after : (xs : List ℕ) → Below j xs → (k : ℕ) → get_or (xs ++ (down ∷ [])) k 0 ≤ j
    after [] h zero = d
    after [] h (suc k) = zero-le
    after (x ∷ xs) h zero = h 0
    after (x ∷ xs) h (suc k) = after xs (λ i. h (suc i)) k

module _ (r : Road) (ok : Accepted r) where
  -- a cap that the numerator does not exceed, times D, leaves the units as they are
  uncapped_moves : (caps : List ℕ) (i a b : ℕ) → numerator r a b ≤ get_or caps i 0 * r.divisor → moved r caps i a b ≡ units r (numerator r a b)
  uncapped_moves caps i a b h = min-eq_left (units_at_most r ok.divisor_low (numerator r a b) (get_or caps i 0) h)

  -- no numerator exceeds an open cap, since no cell sends more than it holds
  pub open_exceeds : (n i a b : ℕ) → i ≤ n → a ≤ r.jam → numerator r a b ≤ get_or (open_caps n) i 0 * r.divisor
  open_exceeds n i a b h g =
      let high = ok.jam_high in
      let sent = (numerator_law r (accepted_sound ok)).send a b in
      let less : r.divisor * a ≤ r.divisor * open_cap = mul-le-mul_left r.divisor (omega arith) in
      rw (get_or-replicate (n + 1) i open_cap 0 (omega arith)) (omega arith)

  -- "with open caps" is "without caps": for densities up to jam and faces up to n
  pub open_moves : (n i a b : ℕ) → i ≤ n → a ≤ r.jam → moved r (open_caps n) i a b ≡ units r (numerator r a b)
  open_moves n i a b h g = uncapped_moves (open_caps n) i a b (open_exceeds n i a b h g)

  -- no numerator exceeds an open cap, at any scale, since none is more than a cell at the critical density sends
  pub open_exceeds_at : (z n i a b : ℕ) → i ≤ n → numerator (scaled z r) a b ≤ get_or (open_caps n) i 0 * (r.divisor * z)
  open_exceeds_at z n i a b h =
      let most = at_most_critical (scaled_law z r (accepted_sound ok)) a b in
      let less : r.divisor * (z * r.critical) ≤ r.divisor * (z * open_cap) =
      mul-le-mul_left r.divisor (mul-le-mul_left z (let low = ok.critical_high in let high = ok.jam_high in omega arith)) in
      let same : open_cap * (r.divisor * z) ≡ r.divisor * (z * open_cap) = mul_comm open_cap (r.divisor * z) ∙ mul_assoc r.divisor z open_cap in
      rw (get_or-replicate (n + 1) i open_cap 0 (omega arith)) (omega (arith, most, less, same))

  -- and so of the exact flow at every scale
  pub open_flows : (z n i a b : ℕ) → i ≤ n → min (numerator (scaled z r) a b) (get_or (open_caps n) i 0 * (r.divisor * z)) ≡ numerator (scaled z r) a b
  open_flows z n i a b h = min-eq_left (open_exceeds_at z n i a b h)
