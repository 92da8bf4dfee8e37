-- From the ranking's answer to what its C call returns and writes.
use mathlib.Core.Path.{◌≡◌, ◌∙◌, refl, sym}
use mathlib.Core.List.{List}
use Prim.Native.Nat.{ℕ}
use lib.IntN.{ℤ}
use lib.ListN.{length}
use borrow.Author.Tests.{eq-eqb}
use Rattle.refusal.specs.Table.{refused}
use Rattle.road.specs.declared.Road.{Road}
use Rattle.nearest.specs.Answers.{NearestAnswer}
use Rattle.nearest.specs.Nearest.{nearest_answer, nearest_number, nearest_place, NearestJudged, Nearests}
use Rattle.welgadou.specs.Rankings.{NearestRanked}
use Rattle.welgadou.proofs.Answers.{meaning_along, judged_told}

-- the ranking goes through two lists alone, so that one lemma serves both answers
pub nearest_answered : {r : Road} {cells : List ℕ} {up down : ℕ} {numbers numbers-next : List ℕ} {changes changes-next : List ℤ} {a : NearestAnswer}
    → Nearests r cells up down numbers numbers-next changes changes-next a
    → (b : NearestAnswer) → a ≡ b → NearestRanked r cells up down numbers numbers-next changes changes-next (nearest_place b) (nearest_number b)
unfolding nearest_answer
nearest_answered {r = r} {cells = cells} {up = up} {down = down} {numbers = numbers} {changes = changes} p b e =
    let number = meaning_along nearest_number e p.number in
    record {
      returned = number;
      placed = meaning_along nearest_place e p.place;
      numbers_written = p.numbers_written;
      changes_written = p.changes_written;
      judged =
          judged_told (NearestJudged r cells up down (length numbers) (length changes)) (λ (x : NearestAnswer). refused (nearest_number x) (nearest_place x)) e p.judged;
      ranked = λ z. p.ranked (p.answer ∙ rw (eq-eqb _ 0 (sym number ∙ z)) refl);
    }
