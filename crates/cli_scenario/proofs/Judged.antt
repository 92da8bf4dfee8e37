-- The judgement of a text by what its lines come to.
use mathlib.Core.Path.{◌≡◌, refl, ap}
use mathlib.Core.Bool.{true, false}
use mathlib.Core.List.{List, [], ◌∷◌}
use borrow.Author.Tests.{eqb-true, eqb-false}
use native.Mathlib.Omega.{arith}
use Prim.Native.Nat.{ℕ, suc}
use lib.Dec.{eqb}
use lib.ListN.{length}
use Rattle.std.specs.Prelude.{Result, Ok, Err}
use Rattle.cli_vocabulary.specs.Pieces.{lines, words, filled, filled_piece}
use Rattle.cli_vocabulary.specs.Keys.{key_of}
use Rattle.cli_scenario.specs.Judging.{Judged, wrong_after, line_judged, judged_line, judged_lines, with_key, go_on, at_start, outcome, verdict}
use Rattle.cli_scenario.specs.declared.judging.Progress.{Progress}
use Rattle.cli_scenario.specs.declared.judging.Verdict.{Verdict}

-- what a text's lines come to is its judgement
pub verdict_is : (text : List ℕ) (p : Result Progress Verdict) → eqb (length text) 0 ≡ false → p ≡ judged_lines at_start (lines text) → go_on p outcome ≡ verdict text
unfolding verdict
verdict_is text p n e = rw n (ap (λ (q : Result Progress Verdict). go_on q outcome) e)

-- a good line's number is one more than that of the line before
pub next_line : (p q : Progress) (line : List ℕ) → Ok q ≡ judged_line p line → q.line ≡ suc p.line
next_line p q line e = by_own (wrong_after p.seen line) e
  where
    by_own : (own : Judged) → Ok q ≡ line_judged own (suc p.line) p.seen (key_of (words line)) → q.line ≡ suc p.line
    by_own (Ok x) f =
        let good : q ≡ record { line = suc p.line; seen = with_key p.seen (key_of (words line)) } = cc in ap (λ (r : Progress). r.line) good
    by_own (Err v) f = absurd cc

-- one piece: empty, or a word
pub none_here : (w : List ℕ) → eqb (length w) 0 ≡ true → filled_piece w ≡ []
unfolding filled
none_here [] z = refl
none_here (b ∷ bs) z = absurd (omega (arith, eqb-true (suc (length bs)) 0 z))

pub word_here : (w : List ℕ) → eqb (length w) 0 ≡ false → filled_piece w ≡ w ∷ []
unfolding filled
word_here [] n = absurd (eqb-false 0 0 n refl)
word_here (b ∷ bs) n = refl
