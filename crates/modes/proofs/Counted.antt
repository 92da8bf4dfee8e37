-- The counts of the definitions are the counts of those in a list that pass a test.
use mathlib.Core.Path.{◌≡◌, ◌∙◌, refl, sym}
use mathlib.Core.Bool.{Bool, true, false, cond}
use mathlib.Core.List.{List}
use Prim.Native.Nat.{ℕ, ◌+◌, ◌≤◌}
use native.Mathlib.Omega.{arith}
use lib.Dec.{eqb, ltb}
use lib.ListN.{length, take}
use lib.Seq.{take_all}
use Rattle.std.specs.List.{count_by}
use Rattle.std.proofs.lemmas.List.Recursion.{is_count_by}
use Rattle.choice.specs.Choice.{pick}
use Rattle.modes.specs.Reading.{count_of, queued_of}

one_more : (b : Bool) (n : ℕ) → pick b 1 0 + n ≡ cond b (1 + n) n
one_more true n = refl
one_more false n = omega arith

-- the modes that are k, counted up to the end
pub modes_counted : (k : ℕ) (ms : List ℕ) {n i : ℕ} → n ≡ count_by (λ m. eqb m k) (take i ms) → length ms ≤ i → n ≡ count_of k ms
unfolding count_of
modes_counted k ms {n} {i} e h =
    (rw (take_all i ms h) at e) ∙ sym (is_count_by (count_of k) (λ m. eqb m k) refl (λ m ms. one_more (eqb m k) (count_of k ms)) ms)

-- the cells that are queued
pub cells_counted : (c : ℕ) (xs : List ℕ) {n i : ℕ} → n ≡ count_by (ltb c) (take i xs) → length xs ≤ i → n ≡ queued_of c xs
unfolding queued_of
cells_counted c xs {n} {i} e h =
    (rw (take_all i xs h) at e) ∙ sym (is_count_by (queued_of c) (ltb c) refl (λ x xs. one_more (ltb c x) (queued_of c xs)) xs)
