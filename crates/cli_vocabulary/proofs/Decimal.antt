-- Decimal numbers: a number midway through its digits.
use mathlib.Core.Path.{◌≡◌, refl, sym}
use mathlib.Core.Bool.{Bool, true, false, ◌&&◌, true≢false}
use mathlib.Core.List.{List, [], ◌∷◌}
use Prim.Native.Nat.{ℕ, suc, ◌+◌, ◌-◌, ◌*◌, ◌≤◌, ◌<◌}
use native.Mathlib.Omega.{arith}
use native.Mathlib.Nat.{le_refl}
use native.Mathlib.Numerals.{add-one}
use lib.Dec.{leb}
use lib.ListN.{length, get_or, drop, drop_of_length-le}
use lib.Seq.{drop-cons}
use borrow.Author.Tests.{leb-true, leb-false, lt-leb, le-leb}
use Rattle.std.specs.Prelude.{Ok, Err}
use Rattle.std.specs.Char.{is_ascii_digit}
use Rattle.choice.specs.Choice.{pick}
use Rattle.cli_vocabulary.specs.Numbers.{all_digits, decimal_from, at_most}
use Rattle.cli_vocabulary.specs.declared.faults.Fault.{Fault}
use Rattle.cli_vocabulary.specs.declared.faults.Fault.TheVariants.{TooLarge}

-- the digits go on to write no less than what they start from
grows : (n : ℕ) (bs : List ℕ) → n ≤ decimal_from n bs
unfolding decimal_from
grows n [] = le_refl n
grows n (b ∷ bs) = let more = grows (n * 10 + (b - 48)) bs in omega arith

-- a number of at most the most, and one that is too large
within : (most n next : ℕ) → Ok next ≡ at_most most n → (next ≡ n) × (n ≤ most)
unfolding at_most
within most n next e = by_test (leb n most) refl e
  where
    by_test : (t : Bool) → leb n most ≡ t → Ok next ≡ pick t (Ok n) (Err TooLarge) → (next ≡ n) × (n ≤ most)
    by_test true l f = (cc, leb-true n most l)
    by_test false l f = absurd cc

beyond : (most n : ℕ) (fault : Fault) → Err fault ≡ at_most most n → (fault ≡ TooLarge) × (most < n)
unfolding at_most
beyond most n fault e = by_test (leb n most) refl e
  where
    by_test : (t : Bool) → leb n most ≡ t → Err fault ≡ pick t (Ok n) (Err TooLarge) → (fault ≡ TooLarge) × (most < n)
    by_test true l f = absurd cc
    by_test false l f = (cc, leb-false n most l)

-- two tests that both hold
second_true : (a b : Bool) → a && b ≡ true → b ≡ true
second_true true b e = e
second_true false b e = absurd (true≢false (sym e))

-- a number midway: the digits before i write the value, which is not past the most
pub record Writing (word : List ℕ) (most value i : ℕ) : Type 0 where
  pub low : value ≤ most
  pub digits : all_digits (drop i word) ≡ true
  pub rest : decimal_from value (drop i word) ≡ decimal_from 0 word

module _ (word : List ℕ) (most value i : ℕ) (now : Writing word most value i) where
  pub ends : length word ≤ i → Ok value ≡ at_most most (decimal_from 0 word)
  unfolding at_most decimal_from
  ends h = let all = rw (drop_of_length-le word h) at now.rest in rw (← all, le-leb value most now.low) refl

  module _ (h : i < length word) where
    goes_on : decimal_from (value * 10 + (get_or word i 0 - 48)) (drop (suc i) word) ≡ decimal_from 0 word
    unfolding decimal_from
    goes_on = rw (drop-cons word i 0 h) at now.rest

    pub past : (fault : Fault) → Err fault ≡ at_most most (value * 10 + (get_or word i 0 - 48)) → Err fault ≡ at_most most (decimal_from 0 word)
    unfolding at_most
    past fault e =
        let n = value * 10 + (get_or word i 0 - 48) in
        let large = beyond most n fault e in
        let more = grows n (drop (suc i) word) in
        rw (lt-leb (decimal_from 0 word) most (omega (arith, goes_on)), large.0) refl

    pub turns : (next : ℕ) → Ok next ≡ at_most most (value * 10 + (get_or word i 0 - 48)) → Writing word most next (i + 1)
    turns next e =
        let few = within most (value * 10 + (get_or word i 0 - 48)) next e in
        rw (few.0, add-one i) (record { low = few.1; digits = later; rest = goes_on })
      where
        later : all_digits (drop (suc i) word) ≡ true
        later = second_true (is_ascii_digit (get_or word i 0)) (all_digits (drop (suc i) word)) (rw (drop-cons word i 0 h) at now.digits)
