-- How many lines and words a text may have: no more than it has bytes.
use Prim.Native.Nat.{ℕ, suc, ◌≤◌, zero-le, suc-le-suc}
use mathlib.Core.Bool.{Bool, true, false}
use mathlib.Core.List.{List, [], ◌∷◌}
use native.Mathlib.Omega.{arith}
use lib.ListN.{length}
use Rattle.choice.specs.Choice.{pick}
use Rattle.cli_vocabulary.specs.Pieces.{newline, blank, cuts, grown, split, filled, lines, words_in}

grown_few : (b : ℕ) (ps : List (List ℕ)) (n : ℕ) → length ps ≤ n → length (grown b ps) ≤ suc n
unfolding grown
grown_few b [] n h = suc-le-suc zero-le
grown_few b (p ∷ ps) n h = omega arith

pieces_few : (mark : ℕ) (text : List ℕ) → length (split mark text) ≤ length text
unfolding split
pieces_few mark [] = zero-le
pieces_few mark (b ∷ bs) = by_test (cuts mark b) (pieces_few mark bs)
  where
    by_test : (t : Bool) → length (split mark bs) ≤ length bs
        → length (pick t ([] ∷ split mark bs) (grown b (split mark bs))) ≤ suc (length bs)
    by_test true h = suc-le-suc h
    by_test false h = grown_few b (split mark bs) (length bs) h

pub lines_few : (text : List ℕ) → length (lines text) ≤ length text
lines_few = pieces_few newline

filled_few : (ps : List (List ℕ)) → length (filled ps) ≤ length ps
unfolding filled
filled_few [] = zero-le
filled_few ([] ∷ ps) = let few = filled_few ps in omega arith
filled_few ((b ∷ bs) ∷ ps) = suc-le-suc (filled_few ps)

pub words_few : (text : List ℕ) → length (words_in text) ≤ length text
unfolding words_in
words_few text = let few = filled_few (split blank text) in let all = pieces_few blank text in omega arith
