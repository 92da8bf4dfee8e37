-- What a result tells: its answer loses nothing of it, and a refusal's number is above 0.
use Rattle.std.proofs.Common.{◌≡◌, ◌∙◌, refl, sym, ap, ℕ, ◌<◌, arith, List, [], ◌∷◌, ◌++◌, get_or, Result, Ok, Err}
use Rattle.std.specs.Prelude.{IsErrAnd}
use Rattle.std.proofs.lemmas.Result.{err_from_is_err_and}
use Rattle.refusal.specs.Outcome.{Outcome}
use Rattle.refusal.specs.Table.{Check, passed, judge}
use Rattle.refusal.specs.Answer.{Answer, Done, Refused, number_of, place_of, outcome_of, answer_of, judged_of}
use Rattle.refusal.specs.declared.Refusal.{Refusal}
use Rattle.refusal.specs.declared.Refusal.TheVariants.{Divisor, Speeds, Densities, Balance, Cells, Horizon, Ends, Output, Cell, Upstream, Downstream, Word, Mode, Estimate, WordCount, StationNumber, StationSpeed, StationDensity, Totals, Caps}
use Rattle.refusal.proofs.Parts.{part_stands}

-- every refusal has a number of the table
pub numbered : (f : Refusal) → 0 < number_of f
numbered Divisor = omega arith
numbered Speeds = omega arith
numbered Densities = omega arith
numbered Balance = omega arith
numbered Cells = omega arith
numbered Horizon = omega arith
numbered Ends = omega arith
numbered Output = omega arith
numbered (Cell place) = omega arith
numbered (Upstream place) = omega arith
numbered (Downstream place) = omega arith
numbered (Word place) = omega arith
numbered Mode = omega arith
numbered (Estimate place) = omega arith
numbered WordCount = omega arith
numbered StationNumber = omega arith
numbered StationSpeed = omega arith
numbered StationDensity = omega arith
numbered Totals = omega arith
numbered Caps = omega arith

-- the refusal of a number and place
refusal_of : ℕ → ℕ → Refusal
refusal_of number place =
    get_or
    (Caps ∷ Divisor ∷ Speeds ∷ Densities ∷ Balance ∷ Cells ∷ Horizon ∷ Ends ∷ Output ∷ Cell place ∷ Upstream place ∷ Downstream place ∷ Word place ∷ Mode ∷ Estimate place ∷ WordCount ∷ StationNumber ∷ StationSpeed ∷ StationDensity ∷ Totals ∷ Caps ∷ [])
    number Caps

read_back : (f : Refusal) → refusal_of (number_of f) (place_of f) ≡ f
unfolding refusal_of
read_back Divisor = refl
read_back Speeds = refl
read_back Densities = refl
read_back Balance = refl
read_back Cells = refl
read_back Horizon = refl
read_back Ends = refl
read_back Output = refl
read_back (Cell place) = refl
read_back (Upstream place) = refl
read_back (Downstream place) = refl
read_back (Word place) = refl
read_back Mode = refl
read_back (Estimate place) = refl
read_back WordCount = refl
read_back StationNumber = refl
read_back StationSpeed = refl
read_back StationDensity = refl
read_back Totals = refl
read_back Caps = refl

-- two refusals of one number and place are one
pub refusal_apart : (f g : Refusal) → outcome_of f ≡ outcome_of g → f ≡ g
refusal_apart f g e = sym (read_back f) ∙ ap (λ (o : Outcome). refusal_of o.number o.place) e ∙ read_back g

-- what is returned at a `?`: the refusal that the judgement above came to
pub err_told : {A : Type 0} {o : Outcome} (f : Refusal) (r : Result A Refusal) → IsErrAnd r (λ g. g ≡ f) → outcome_of f ≡ o → judged_of r ≡ o
err_told f r is_err e = let p = err_from_is_err_and r is_err in rw (p.1, p.2) e

-- a refusal by the first part of a table is the whole table's
pub refusal_stands : (f : Refusal) (checks more : List Check) → outcome_of f ≡ judge checks → outcome_of f ≡ judge (checks ++ more)
refusal_stands f checks more e = part_stands checks more (outcome_of f) e (λ z. let n = numbered f in omega arith)

-- the answer that a result is loses nothing of it
given : {A : Type 0} → A → Answer A → A
given a (Done b) = b
given a (Refused o) = a

outcome_in : {A : Type 0} → Answer A → Outcome
outcome_in (Done a) = passed
outcome_in (Refused o) = o

pub answer_apart : {A : Type 0} (x y : Result A Refusal) → answer_of x ≡ answer_of y → x ≡ y
unfolding given outcome_in
answer_apart (Ok a) (Ok b) e = ap (λ (x : Answer _). Ok (given a x)) e
answer_apart (Ok a) (Err g) e = absurd (let n = numbered g in let z : 0 ≡ number_of g = ap (λ (x : Answer _). (outcome_in x).number) e in omega arith)
answer_apart (Err f) (Ok b) e = absurd (let n = numbered f in let z : number_of f ≡ 0 = ap (λ (x : Answer _). (outcome_in x).number) e in omega arith)
answer_apart (Err f) (Err g) e = ap Err (refusal_apart f g (ap outcome_in e))
