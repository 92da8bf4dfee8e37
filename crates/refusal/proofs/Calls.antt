-- A call's judgement, once for every call: from its checks and what a checked input is, demand 1 and what a refused and an accepted call know.
use mathlib.Core.Path.{◌≡◌, ◌∙◌, sym, ap, subst}
use mathlib.Core.Bool.{true, false}
use mathlib.Core.List.{List}
use Prim.Native.Nat.{ℕ}
use lib.Dec.{T, eqb, ltb, ltb→lt}
use borrow.Author.Tests.{eq-eqb, ne_eqb}
use Rattle.refusal.specs.Table.{passed, Check, judge, apart, First, Judged}
use Rattle.refusal.specs.Outcome.{Outcome}
use Rattle.refusal.proofs.Table.{Passing, all_pass, condition_of, place_of, none_holds, nothing_refused, check_returned, first_fits, first_lowest, first_falls}
use Rattle.refusal.proofs.Parts.{same_number}

-- a number returned is that of its check: the condition holds, and the place is the one returned
abbrev pub Returned : List Check → Outcome → Type 0
Returned checks f = (n : ℕ) → T (ltb 0 n) → f.number ≡ n → (condition_of n checks ≡ true) × (place_of n checks ≡ f.place)

-- what is shown of each call, whose checks come to f: its numbers differ, its places mean what they should, and no check holds exactly of a checked input
pub record Call (checks : List Check) (Checked : Type 0) (Placed : Outcome → Type 0) (f : Outcome) : Type 0 where
  pub comes_to : f ≡ judge checks
  pub distinct : T (apart checks)
  pub placed : Returned checks f → Placed f
  pub clear_checked : ((n : ℕ) → condition_of n checks ≡ false) → Checked
  pub passes : Checked → Passing checks

-- what is known of a refusal g that was worked, and of a call that nothing is refused of
pub record Refuses (checks : List Check) (Checked : Type 0) (Placed : Outcome → Type 0) (f g : Outcome) : Type 0 where
  pub no : eqb f.number 0 ≡ false
  pub judged : Judged checks Checked Placed g

pub record Accepts (checks : List Check) (Checked : Type 0) (Placed : Outcome → Type 0) (f : Outcome) : Type 0 where
  pub yes : eqb f.number 0 ≡ true
  pub nothing : f ≡ passed
  pub checked : Checked
  pub judged : Judged checks Checked Placed passed

module _ {checks : List Check} {Checked : Type 0} {Placed : Outcome → Type 0} {f : Outcome} (call : Call checks Checked Placed f) where
  -- an input that nothing is refused of is checked, and the other way round
  pub checked : f.number ≡ 0 → Checked
  checked e = call.clear_checked (none_holds checks call.distinct (same_number call.comes_to e))

  clear : Checked → f ≡ passed
  clear c = call.comes_to ∙ all_pass checks (call.passes c)

  pub accepts_checked : Checked → eqb f.number 0 ≡ true
  accepts_checked c = eq-eqb f.number 0 (ap (λ (g : Outcome). g.number) (clear c))

  -- demand 1
  pub judged : Judged checks Checked Placed f
  judged = record {
    first = first;
    lowest = λ rises. first_lowest checks rises first;
    lower_after = first_falls checks first;
    placed = call.placed (subst (Returned checks) (sym call.comes_to) (λ n t. check_returned checks call.distinct n (ltb→lt 0 n t)));
    accepted = checked;
    no_other = λ c. ap (λ (g : Outcome). g.number) (clear c);
  }
    where
      first : First checks f
      first = subst (First checks) (sym call.comes_to) (first_fits checks call.distinct)

  pub refuses : {g : Outcome} → g ≡ f → (g.number ≡ 0 → ⊥) → Refuses checks Checked Placed f g
  refuses e n = record {
    no = ne_eqb f.number 0 (λ z. n (same_number (sym e) z));
    judged = subst (Judged checks Checked Placed) (sym e) judged;
  }

  pub accepts : f.number ≡ 0 → Accepts checks Checked Placed f
  accepts e =
      let nothing : f ≡ passed = call.comes_to ∙ nothing_refused checks call.distinct (same_number call.comes_to e) in
      record {
        yes = eq-eqb f.number 0 e;
        nothing = nothing;
        checked = checked e;
        judged = subst (Judged checks Checked Placed) nothing judged;
      }
