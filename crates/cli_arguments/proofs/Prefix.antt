-- Lengths that programs' proofs cite: of a repeat, and of the first elements of a list that has as many.
use Rattle.std.proofs.Common.{◌≡◌, ℕ, ◌≤◌, List, length, take, replicate, sym, length-take-le}
use lib.ListN.{length-replicate}
use Rattle.io.specs.Counts.{IsPrefixLen}

pub repeat_length : (n a : ℕ) → n ≡ length (replicate n a)
repeat_length n a = sym (length-replicate n a)

pub prefix_length : {A : Type 0} (n : ℕ) (xs : List A) → n ≤ length xs → n ≡ length (take n xs)
prefix_length n xs h = sym (length-take-le n xs h)

pub prefix_counts : (n : ℕ) (xs : List ℕ) → n ≤ length xs → IsPrefixLen n xs
prefix_counts n xs h = (h, prefix_length n xs h)
