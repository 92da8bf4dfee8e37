-- What every C call does with an answer: it tells what the answer means, and where that is a refusal a pointer's contents stay.
use mathlib.Core.Path.{◌≡◌, ◌∙◌, refl, sym, ap, subst}
use Prim.Native.Nat.{ℕ}
use native.Mathlib.Omega.{arith}
use lib.Dec.{eqb}
use borrow.Author.Tests.{eq-eqb, ne_eqb}
use mathlib.Core.Bool.{Bool, true, false}
use mir.Val.{bool_byte}
use Rattle.choice.specs.Choice.{pick}
use Rattle.refusal.specs.Outcome.{Outcome}
use Rattle.welgadou.specs.Parts.{written, flag_of}

-- what the answer means that was matched is what the call's definition says
pub meaning_along : {A M : Type 0} {a b : A} {defined : M} (meaning : A → M) → a ≡ b → meaning a ≡ defined → meaning b ≡ defined
meaning_along meaning e means = ap meaning (sym e) ∙ means

-- demand 1 of the answer below holds of the answer that was matched
pub judged_told : {A : Type 0} {a b : A} (judged : Outcome → Type 0) (refusal : A → Outcome) → a ≡ b → judged (refusal a) → judged (refusal b)
judged_told {A} judged refusal e h = subst (λ (x : A). judged (refusal x)) e h

-- a call's answer is `done` where the refusal's number is 0, else `refused`: so where it is not `done` the number is not 0
pub refusal_counts : {A : Type 0} {a done : A} {number returned : ℕ} (refused : A)
    → (a ≡ done → ◌≡◌ {A = ℕ} 0 1) → a ≡ pick (eqb number 0) done refused → returned ≡ number → returned ≡ 0 → ⊥
refusal_counts {number = number} refused not_done answer same z =
    let no = not_done (answer ∙ (rw (eq-eqb number 0 (sym same ∙ z)) refl)) in omega arith

-- and what stands behind a pointer, whatever its type, is its former contents
pub former_when_refused : {C : Type 0} {returned : ℕ} → (returned ≡ 0 → ⊥) → (value former : C) → former ≡ written returned value former
former_when_refused {returned = returned} counts value former = rw (ne_eqb returned 0 counts) refl

-- a flag is the number of a bool
pub flag_is : (b : Bool) → bool_byte b ≡ flag_of b
flag_is true = refl
flag_is false = refl
