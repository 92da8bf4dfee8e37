-- The word count, midway: the turns that are left make the count of the letters so far, and no sum on the way is above it.
use mathlib.Core.Path.{◌≡◌, refl}
use Prim.Native.Nat.{ℕ, zero, suc, ◌+◌, ◌-◌, ◌≤◌, ◌<◌}
use native.Mathlib.Nat.{le_trans, le_of_suc-le-suc, not-suc-le-zero, sub-zero, sub-eq-zero_of_le}
use native.Mathlib.Omega.{arith}
use lib.Dec.{lit≤}
use Rattle.road.specs.Ceilings.{count_ceiling}
use Rattle.counting.specs.WordCount.{turned, word_count}
use Rattle.counting.specs.declared.counting.Endings.{Endings}

-- more turns never make less
grows : (n w l d : ℕ) → w + l + d ≤ turned n w l d
unfolding turned
grows zero w l d = omega arith
grows (suc n) w l d = let more = grows n (w + l + d) (w + d) (l + d) in omega arith

longer : (n m w l d : ℕ) → n ≤ m → turned n w l d ≤ turned m w l d
unfolding turned
longer zero m w l d h = grows m w l d
longer (suc n) zero w l d h = absurd (not-suc-le-zero h)
longer (suc n) (suc m) w l d h = longer n m (w + l + d) (w + d) (l + d) (le_of_suc-le-suc h)

-- the count at the ceiling
most : word_count count_ceiling ≤ 368206551266960
unfolding word_count turned
most = lit≤ tt

-- no count up to the ceiling is above it
count_small : (n : ℕ) → n ≤ count_ceiling → word_count n ≤ 368206551266960
unfolding word_count
count_small n h = le_trans (longer n count_ceiling 1 1 1 h) most

-- the words after k turns
pub record Turning (n : ℕ) (words : Endings) (k : ℕ) : Type 0 where
  pub count : turned (n - k) words.w words.l words.d ≡ word_count n

module _ (n : ℕ) where
  pub begins : Turning n (record { w = 1; l = 1; d = 1 }) 0
  unfolding word_count
  begins = record { count = rw sub-zero refl }

  module _ (words : Endings) (k : ℕ) (now : Turning n words k) where
    -- every sum of a turn is at most this one
    pub sum_small : n ≤ count_ceiling → words.w + words.l + words.d ≤ 368206551266960
    sum_small h = let most = count_small n h in let more = grows (n - k) words.w words.l words.d in omega (arith, now.count)

    pub turns : k < n → (next : Endings) → next.w ≡ words.w + words.l + words.d → next.l ≡ words.w + words.d → next.d ≡ words.l + words.d → Turning n next (k + 1)
    unfolding turned
    turns h next w l d =
        let left : n - k ≡ suc (n - (k + 1)) = omega arith in
        record { count = rw (w, l, d) (rw left at now.count) }

    pub ends : n ≤ k → words.w + words.l + words.d ≡ word_count n
    unfolding turned
    ends h = rw (sub-eq-zero_of_le h) at now.count
