-- The first density above jam: what its place means, and how a search finds it.
use mathlib.Core.Path.{◌≡◌, ◌∙◌, refl, sym, ap}
use mathlib.Core.Bool.{true, false}
use mathlib.Core.List.{List, [], ◌∷◌}
use Prim.Native.Nat.{ℕ, zero, suc, ◌≤◌, ◌<◌, zero-le, suc-le-suc}
use native.Mathlib.Nat.{not-suc-le-zero, le_of_suc-le-suc, le_refl, le_of_eq, le_of_lt, lt_irrefl}
use native.Mathlib.Decide.{dec_lt}
use native.Mathlib.Omega.{arith}
use lib.ListN.{length, get_or, get_or-eq_default}
use borrow.Author.Tests.{lt-ltb, le-ltb, ltb-true, ltb-false}
use Rattle.std.specs.Prelude.{Option, Some, None, MatchOption}
use Rattle.std.specs.List.{AllWithin, HoldsAt}
use Rattle.checks.specs.Values.{first_index_above, any_above, FirstAbove, FoundAbove}

-- one density of the search, by its test
first_above_head : (j x : ℕ) (xs : List ℕ) → j < x → first_index_above j (x ∷ xs) ≡ 0
unfolding first_index_above
first_above_head j x xs h = rw (lt-ltb j x h)

first_above_tail : (j x : ℕ) (xs : List ℕ) → x ≤ j → first_index_above j (x ∷ xs) ≡ suc (first_index_above j xs)
unfolding first_index_above
first_above_tail j x xs h = rw (le-ltb j x h)

-- a place before which nothing is above, and which is above or the end, is the first
pub first_is : (j : ℕ) (xs : List ℕ) (k : ℕ) → k ≤ length xs → ((i : ℕ) → i < k → get_or xs i 0 ≤ j) → (k < length xs → j < get_or xs k 0) → first_index_above j xs ≡ k
unfolding first_index_above
first_is j [] zero h low high = refl
first_is j [] (suc k) h low high = absurd (not-suc-le-zero h)
first_is j (x ∷ xs) zero h low high = first_above_head j x xs (high (suc-le-suc zero-le))
first_is j (x ∷ xs) (suc k) h low high =
    first_above_tail j x xs (low 0 (suc-le-suc zero-le))
    ∙ ap suc (first_is j xs k (le_of_suc-le-suc h) (λ i l. low (suc i) (suc-le-suc l)) (λ l. high (suc-le-suc l)))

-- what a search of xs that ended at k has seen
record Searched (j : ℕ) (xs : List ℕ) (k : ℕ) : Type 0 where
  low : (i : ℕ) → i < k → get_or xs i 0 ≤ j
  high : k < length xs → j < get_or xs k 0

searched : (j : ℕ) (xs : List ℕ) → Searched j xs (first_index_above j xs)
unfolding first_index_above
searched j [] = record { low = λ i h. zero-le; high = λ h. absurd (not-suc-le-zero h) }
searched j (x ∷ xs) = by_density (dec_lt j x) (searched j xs)
  where
    by_density : Dec (j < x) → Searched j xs (first_index_above j xs) → Searched j (x ∷ xs) (first_index_above j (x ∷ xs))
    by_density (yes a) rest =
        rw (first_above_head j x xs a) record { low = λ i h. absurd (not-suc-le-zero h); high = λ h. a }
    by_density (no n) rest =
        rw (first_above_tail j x xs (omega arith)) record { low = low; high = λ h. rest.high (le_of_suc-le-suc h) }
      where
        low : (i : ℕ) → i < suc (first_index_above j xs) → get_or (x ∷ xs) i 0 ≤ j
        low zero h = omega arith
        low (suc i) h = rest.low i (le_of_suc-le-suc h)

-- what a search by tests has found is the first
pub found_above : (j : ℕ) (xs : List ℕ) (found : Option ℕ)
    → MatchOption found (AllWithin (λ x. x ≤ j) xs 0 (length xs)) (λ i. (i < length xs) × HoldsAt (λ x. j < x) xs i × AllWithin (λ x. x ≤ j) xs 0 i)
    → FoundAbove j xs found
found_above j xs None low =
    le-ltb (first_index_above j xs) (length xs)
    (le_of_eq (sym (first_is j xs (length xs) (le_refl (length xs)) (λ i l. low i 0 zero-le l) (λ l. absurd (lt_irrefl (length xs) l)))))
found_above j xs (Some i) (l, high, low) =
    let e = first_is j xs i (le_of_lt l) (λ k h. low k 0 zero-le h) (λ h. high 0) in
    (rw e (lt-ltb i (length xs) l), sym e)

-- a place that is reported is above jam, and no earlier one is
pub first_above : (j : ℕ) (xs : List ℕ) → any_above j xs ≡ true → FirstAbove j xs (first_index_above j xs)
first_above j xs e = record {
  above = (searched j xs).high (ltb-true (first_index_above j xs) (length xs) e);
  earlier = (searched j xs).low;
}

-- where none is reported every density is in range, and the other way round
pub all_below : (j : ℕ) (xs : List ℕ) → any_above j xs ≡ false → (i : ℕ) → get_or xs i 0 ≤ j
all_below j xs e i = by_place (dec_lt i (length xs))
  where
    past : length xs ≤ first_index_above j xs
    past = ltb-false (first_index_above j xs) (length xs) e

    by_place : Dec (i < length xs) → get_or xs i 0 ≤ j
    by_place (yes l) = (searched j xs).low i (let h = past in omega arith)
    by_place (no n) = rw (get_or-eq_default xs 0 {n = i} (omega arith)) zero-le

pub none_above : (j : ℕ) (xs : List ℕ) → ((i : ℕ) → get_or xs i 0 ≤ j) → any_above j xs ≡ false
none_above j xs h =
    le-ltb (first_index_above j xs) (length xs)
    (le_of_eq (sym (first_is j xs (length xs) (le_refl (length xs)) (λ i l. h i) (λ l. absurd (lt_irrefl (length xs) l)))))
