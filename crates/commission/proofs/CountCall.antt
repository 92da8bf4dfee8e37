-- The word count: what demand 1 says of it, and what an accepted one made, from its contracts.
use mathlib.Core.Path.{◌≡◌, ◌∙◌, refl, sym, ap}
use mathlib.Core.Logic.{inr}
use Rattle.refusal.proofs.Table.{◌&◌}
use Rattle.counting.specs.WordCount.{word_count}
use Rattle.counting.specs.Count.{count_refusal, count_answer, Meaning, meaning, count_meaning}
use Rattle.counting.specs.LegalWordsCounted.{LegalWordsCounted}
use Rattle.commission.specs.Outcome.{Outcome}
use Rattle.commission.specs.CountCall.{CalledCount, count, welgadou_count, AcceptedCount, CountMade}
use Rattle.commission.specs.Table as Table
use Rattle.commission.proofs.Told.{value_of, former_of, Told}

pub count_told : (o : Outcome) → CalledCount o → Told o
unfolding count_refusal count_answer count_meaning
count_told _ (count {n = n} c) = record {
  judged = c.judged;
  kept = λ no. tt;
  table = λ i. record { number = (c.means i).number; place = (c.means i).place };
  named = Table.count n & tt;
  numbers = refl;
  rise = inr (inr tt);
  made = λ z. (_, value_of _ _ (sym (ap (λ (m : Meaning). m.number) c.means) ∙ z) c.answer);
}
count_told _ (welgadou_count {n = n} c) = record {
  judged = c.judged;
  kept = λ no. former_of _ _ no c.words_written;
  table = λ i. record { number = c.returned i; place = c.placed i };
  named = Table.count n & tt;
  numbers = refl;
  rise = inr (inr tt);
  made = λ z. tt;
}

pub count_says : (x : AcceptedCount) → CountMade x → (x.words ≡ word_count x.cells) × LegalWordsCounted x.cells x.words
unfolding count_meaning
count_says _ (count {c = words} c e) =
    let m = ap meaning (sym e) ∙ c.means in
    (value_of _ _ (sym (ap (λ (x : Meaning). x.number) m)) (ap (λ (x : Meaning). x.words) m), c.counted words e)
count_says _ (welgadou_count c z) = (value_of _ _ (sym c.returned ∙ z) (value_of _ _ z c.words_written), c.counted z)
