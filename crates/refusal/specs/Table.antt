-- The refusal table as a form: checks of a condition, a number and a place, in the call's order of checks. The first check that holds is returned, which has the lowest number that applies where the numbers rise.
use Rattle.std.specs.Prelude.{◌≡◌, Bool, true, false, not, List, [], ◌∷◌, ◌++◌, map, ℕ, ◌≤◌, ◌<◌, T, eqb, ltb, length, get_or}
use Rattle.choice.specs.Choice.{pick, both}
use Rattle.refusal.specs.Outcome.{Outcome}

-- a refusal with its number and place
abbrev pub refused : ℕ → ℕ → Outcome
refused number place = record { number = number; place = place }

-- nothing is refused: number 0
abbrev pub passed : Outcome
passed = refused 0 0

-- one more check: a refusal by a check above stands; otherwise this check refuses where its condition holds
unfoldable pub or_if : Outcome → Bool → ℕ → ℕ → Outcome
or_if above condition number place = pick (eqb above.number 0) (pick condition (refused number place) above) above

-- what a call comes to by its refusal: the value where nothing is refused, else what a refused call has instead
abbrev pub unless_refused {ℓ} : {A : Type ℓ} → Outcome → A → A → A
unless_refused f value otherwise = pick (eqb f.number 0) value otherwise

-- a check of the table: condition, number, place reported
pub record Check : Type 0 where
  pub condition : Bool
  pub number : ℕ
  pub place : ℕ

abbrev pub check : Bool → ℕ → ℕ → Check
check condition number place = record { condition = condition; number = number; place = place }

-- the checks judged down the table, below what the checks above came to
abbrev pub judge_below : Outcome → List Check → Outcome
judge_below above [] = above
judge_below above (r ∷ rs) = judge_below (or_if above r.condition r.number r.place) rs

-- what a table comes to: its first check that applies, or none
abbrev pub judge : List Check → Outcome
judge checks = judge_below passed checks

-- no check has this number
abbrev pub lacks : ℕ → List Check → Bool
lacks n [] = true
lacks n (r ∷ rs) = both (not (eqb r.number n)) (lacks n rs)

-- every number is above 0, and none stands twice
abbrev pub apart : List Check → Bool
apart [] = true
apart (r ∷ rs) = both (ltb 0 r.number) (both (lacks r.number rs) (apart rs))

-- the numbers of the checks rise, from above the number given
abbrev pub rising : ℕ → List Check → Bool
rising k [] = true
rising k (r ∷ rs) = both (ltb k r.number) (rising r.number rs)

-- the check at a place of the table, from 0
abbrev pub check_at : List Check → ℕ → Check
check_at checks i = get_or checks i (check true 0 0)

-- the table has a check of this number and place whose condition holds
abbrev pub Applies : List Check → ℕ → ℕ → Type 0
Applies checks number place = (i : ℕ) × (i < length checks) × (check_at checks i ≡ check true number place)

-- x stands in a list
pub data Among {A : Type 0} (x : A) : List A → Type 0 where
  at_head : {xs : List A} → Among x (x ∷ xs)
  in_tail : {y : A} {xs : List A} → Among x xs → Among x (y ∷ xs)

-- the lower numbers of a list, each beside the number given
abbrev pub lower_in : ℕ → List ℕ → List (ℕ × ℕ)
lower_in n [] = []
lower_in n (m ∷ ms) = pick (ltb m n) ((n, m) ∷ lower_in n ms) (lower_in n ms)

-- where the numbers of a list do not rise: each number with the lower ones that stand after it
abbrev pub falling : List ℕ → List (ℕ × ℕ)
falling [] = []
falling (n ∷ ns) = lower_in n ns ++ falling ns

-- "the first fitting number and place of the refusal table": a number returned is that of a check which holds, with its place, and no check before it
-- holds; where one holds, one is returned
pub record First (checks : List Check) (f : Outcome) : Type 0 where
  pub fits : 0 < f.number
      → (i : ℕ) × (i < length checks) × (check_at checks i ≡ check true f.number f.place) × ((j : ℕ) → j < i → (check_at checks j).condition ≡ false)
  pub found : (number place : ℕ) → Applies checks number place → 0 < f.number

-- "The lowest number that applies is returned": a number returned applies, with its place, and no lower one does; where one applies, one is returned
pub record Lowest (checks : List Check) (f : Outcome) : Type 0 where
  pub applies : 0 < f.number → Applies checks f.number f.place
  pub returned : (number place : ℕ) → Applies checks number place → 0 < f.number
  pub lowest : (number place : ℕ) → Applies checks number place → f.number ≤ number

-- demand 1 of a refusal (number 0 for none), of a call's checks: the first that fits, which is the lowest number that applies where the numbers rise, at the
-- place that the table says; none exactly where the input is checked
pub record Judged (checks : List Check) (Checked : Type 0) (Placed : Outcome → Type 0) (f : Outcome) : Type 0 where
  pub first : First checks f
  pub lowest : T (rising 0 checks) → Lowest checks f
  -- of any call: a lower number that applies besides stands after the one returned
  pub lower_after : (number place : ℕ) → Applies checks number place → number < f.number → Among (f.number, number) (falling (map (λ (c : Check). c.number) checks))
  pub placed : Placed f
  pub accepted : f.number ≡ 0 → Checked
  pub no_other : Checked → f.number ≡ 0
