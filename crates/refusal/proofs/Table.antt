-- The rule of the refusal table: the first check that holds is returned, and where the numbers rise no lower one applies. Checks are looked up by their number.
use mathlib.Core.Path.{◌≡◌, ◌∙◌, refl, sym, ap, subst}
use mathlib.Core.Bool.{Bool, true, false, not, true≢false}
use mathlib.Core.List.{List, [], ◌∷◌, ◌++◌, map}
use Prim.Native.Nat.{ℕ, zero, suc, ◌≤◌, ◌<◌, zero-le, suc-le-suc}
use native.Mathlib.Nat.{le_refl, le_of_lt, le_of_suc-le-suc, not-suc-le-zero, lt_of_not-le}
use native.Mathlib.Decide.{dec_le, dec_lt}
use native.Mathlib.Omega.{arith}
use lib.Dec.{T, eqb, eqb→eq, ltb, ltb→lt}
use lib.ListN.{length, get_or, length-map, get_or-map}
use borrow.Author.Tests.{eq-eqb, ne_eqb, lt-ltb}
use Rattle.choice.specs.Choice.{pick, both}
use Rattle.refusal.specs.Table.{refused, passed, or_if, Among, at_head, in_tail, lower_in, falling, Check, check, judge_below, judge, lacks, apart, rising, check_at, Applies, First, Lowest}
use Rattle.refusal.specs.Outcome.{Outcome}
use Rattle.choice.proofs.Choice.{both_left, both_right}

-- one check of code: the check above, the condition and the place as they were shown to be
pub next_check : (n : ℕ) {f f' : Outcome} {c c' : Bool} {p p' : ℕ} → f ≡ f' → c ≡ c' → p ≡ p' → or_if f c n p ≡ or_if f' c' n p'
next_check n e q s = λ i. or_if (e i) (q i) n (s i)

-- of a check that reports place 0
pub next_at_0 : (n : ℕ) {f f' : Outcome} {c c' : Bool} → f ≡ f' → c ≡ c' → or_if f c n 0 ≡ or_if f' c' n 0
next_at_0 n e q = next_check n e q refl

-- a check below a refusal changes nothing
check_stands : (f : Outcome) (c : Bool) (n p : ℕ) → 0 < f.number → or_if f c n p ≡ f
unfolding or_if
check_stands f c n p h = simp (ne_eqb f.number 0 (λ e. omega arith))

pub refusal_stands : (f : Outcome) (rs : List Check) → 0 < f.number → judge_below f rs ≡ f
refusal_stands f [] h = refl
refusal_stands f (r ∷ rs) h =
    ap (λ (g : Outcome). judge_below g rs) (check_stands f r.condition r.number r.place h) ∙ refusal_stands f rs h

-- the first check refuses, or the rest is judged
module _ (r : Check) (rs : List Check) where
  pub judge_here : r.condition ≡ true → 0 < r.number → judge (r ∷ rs) ≡ refused r.number r.place
  unfolding or_if
  judge_here e pos =
      ap (λ (c : Bool). judge_below (or_if passed c r.number r.place) rs) e ∙ refusal_stands (refused r.number r.place) rs pos

  pub judge_on : r.condition ≡ false → judge (r ∷ rs) ≡ judge rs
  unfolding or_if
  judge_on e = ap (λ (c : Bool). judge_below (or_if passed c r.number r.place) rs) e

  -- what a table of checks apart begins with
  module _ (t : T (apart (r ∷ rs))) where
    above_0 : 0 < r.number
    above_0 = ltb→lt 0 r.number (both_left (ltb 0 r.number) (both (lacks r.number rs) (apart rs)) t)

    lacked : T (lacks r.number rs)
    lacked = both_left (lacks r.number rs) (apart rs) (both_right (ltb 0 r.number) (both (lacks r.number rs) (apart rs)) t)

    rest_apart : T (apart rs)
    rest_apart = both_right (lacks r.number rs) (apart rs) (both_right (ltb 0 r.number) (both (lacks r.number rs) (apart rs)) t)

-- the rule: the first check that holds
pub first_fits : (checks : List Check) → T (apart checks) → First checks (judge checks)
first_fits [] t = record { fits = λ h. absurd (not-suc-le-zero h); found = λ n p a. absurd (not-suc-le-zero a.1) }
first_fits (r ∷ rs) t = by_test r.condition refl (first_fits rs (rest_apart r rs t))
  where
    by_test : (c : Bool) → r.condition ≡ c → First rs (judge rs) → First (r ∷ rs) (judge (r ∷ rs))
    by_test true e later =
        subst (First (r ∷ rs)) (sym (judge_here r rs e (above_0 r rs t))) record {
          fits = λ h. (0, suc-le-suc zero-le, (λ i. check (e i) r.number r.place), λ j l. absurd (not-suc-le-zero l));
          found = λ n p a. above_0 r rs t;
        }
    by_test false e later =
        subst (First (r ∷ rs)) (sym (judge_on r rs e)) record {
          fits = λ h. let (i, l, q, before) = later.fits h in (suc i, suc-le-suc l, q, earlier i before);
          found = λ n p a. later.found n p (below n p a);
        }
      where
        earlier : (i : ℕ) → ((j : ℕ) → j < i → (check_at rs j).condition ≡ false) → (j : ℕ) → j < suc i → (check_at (r ∷ rs) j).condition ≡ false
        earlier i before zero l = e
        earlier i before (suc j) l = before j (le_of_suc-le-suc l)

        below : (n p : ℕ) → Applies (r ∷ rs) n p → Applies rs n p
        below n p (zero, h, q) = absurd (true≢false (sym (ap (λ (x : Check). x.condition) q) ∙ e))
        below n p (suc i, h, q) = (i, le_of_suc-le-suc h, q)

-- rising numbers stand in the order of their checks
rising_above : (k : ℕ) (checks : List Check) → T (rising k checks) → (i : ℕ) → i < length checks → k < (check_at checks i).number
rising_above k [] t i h = absurd (not-suc-le-zero h)
rising_above k (r ∷ rs) t zero h = ltb→lt k r.number (both_left (ltb k r.number) (rising r.number rs) t)
rising_above k (r ∷ rs) t (suc i) h =
    let low = ltb→lt k r.number (both_left (ltb k r.number) (rising r.number rs) t) in
    let more = rising_above r.number rs (both_right (ltb k r.number) (rising r.number rs) t) i (le_of_suc-le-suc h) in
    omega arith

rising_order : (k : ℕ) (checks : List Check) → T (rising k checks) → (i j : ℕ) → i ≤ j → j < length checks → (check_at checks i).number ≤ (check_at checks j).number
rising_order k [] t i j h g = absurd (not-suc-le-zero g)
rising_order k (r ∷ rs) t zero zero h g = le_refl r.number
rising_order k (r ∷ rs) t zero (suc j) h g =
    le_of_lt (rising_above r.number rs (both_right (ltb k r.number) (rising r.number rs) t) j (le_of_suc-le-suc g))
rising_order k (r ∷ rs) t (suc i) zero h g = absurd (not-suc-le-zero h)
rising_order k (r ∷ rs) t (suc i) (suc j) h g =
    rising_order r.number rs (both_right (ltb k r.number) (rising r.number rs) t) i j (le_of_suc-le-suc h) (le_of_suc-le-suc g)

-- so that the first that fits is the lowest that applies
pub first_lowest : (checks : List Check) {f : Outcome} → T (rising 0 checks) → First checks f → Lowest checks f
first_lowest checks {f} t first = record {
  applies = λ h. let (i, l, q, before) = first.fits h in (i, l, q);
  returned = first.found;
  lowest = λ n p a. least n a (first.fits (first.found n p a));
}
  where
    least : {p : ℕ} (n : ℕ) → Applies checks n p
        → (i : ℕ) × (i < length checks) × (check_at checks i ≡ check true f.number f.place) × ((j : ℕ) → j < i → (check_at checks j).condition ≡ false)
        → f.number ≤ n
    least n (j, g, s) (i, l, q, before) = by_order (dec_le i j)
      where
        by_order : Dec (i ≤ j) → f.number ≤ n
        by_order (no h) = absurd (true≢false (sym (ap (λ (x : Check). x.condition) s) ∙ before j (lt_of_not-le h)))
        by_order (yes h) =
            let mine : (check_at checks i).number ≡ f.number = ap (λ (x : Check). x.number) q in
            let other : (check_at checks j).number ≡ n = ap (λ (x : Check). x.number) s in
            let order = rising_order 0 checks t i j h g in
            omega arith

-- what stands in a part of a list stands in the list
among_left : {A : Type 0} {x : A} {xs : List A} (ys : List A) → Among x xs → Among x (xs ++ ys)
among_left ys at_head = at_head
among_left ys (in_tail a) = in_tail (among_left ys a)

among_right : {A : Type 0} {x : A} (xs : List A) {ys : List A} → Among x ys → Among x (xs ++ ys)
among_right [] a = a
among_right (x ∷ xs) a = in_tail (among_right xs a)

-- a lower number that stands after another falls
lower_among : (n : ℕ) (ms : List ℕ) (j : ℕ) → j < length ms → get_or ms j 0 < n → Among (n, get_or ms j 0) (lower_in n ms)
lower_among n [] j h l = absurd (not-suc-le-zero h)
lower_among n (m ∷ ms) zero h l = rw (lt-ltb m n l) at_head
lower_among n (m ∷ ms) (suc j) h l = by_test (ltb m n) (lower_among n ms j (le_of_suc-le-suc h) l)
  where
    by_test : (t : Bool) → Among (n, get_or ms j 0) (lower_in n ms) → Among (n, get_or ms j 0) (pick t ((n, m) ∷ lower_in n ms) (lower_in n ms))
    by_test true a = in_tail a
    by_test false a = a

falls_at : (ns : List ℕ) (i j : ℕ) → i < j → j < length ns → get_or ns j 0 < get_or ns i 0 → Among (get_or ns i 0, get_or ns j 0) (falling ns)
falls_at [] i j h g l = absurd (not-suc-le-zero g)
falls_at (n ∷ ns) i zero h g l = absurd (not-suc-le-zero h)
falls_at (n ∷ ns) zero (suc j) h g l = among_left (falling ns) (lower_among n ns j (le_of_suc-le-suc g) l)
falls_at (n ∷ ns) (suc i) (suc j) h g l = among_right (lower_in n ns) (falls_at ns i j (le_of_suc-le-suc h) (le_of_suc-le-suc g) l)

-- so that a lower number which applies stands after the first that fits
pub first_falls : (checks : List Check) {f : Outcome} → First checks f → (number place : ℕ) → Applies checks number place → number < f.number
    → Among (f.number, number) (falling (map (λ (c : Check). c.number) checks))
first_falls checks {f} first n p (j, g, s) low = told (first.fits (omega arith))
  where
    numbers : List ℕ
    numbers = map (λ (c : Check). c.number) checks

    number_at : (k : ℕ) → get_or numbers k 0 ≡ (check_at checks k).number
    number_at k = get_or-map (λ (c : Check). c.number) checks k (check true 0 0)

    told : (i : ℕ) × (i < length checks) × (check_at checks i ≡ check true f.number f.place) × ((j : ℕ) → j < i → (check_at checks j).condition ≡ false)
        → Among (f.number, n) (falling numbers)
    told (i, l, q, before) = by_order (dec_lt i j)
      where
        mine : get_or numbers i 0 ≡ f.number
        mine = number_at i ∙ ap (λ (x : Check). x.number) q

        other : get_or numbers j 0 ≡ n
        other = number_at j ∙ ap (λ (x : Check). x.number) s

        by_order : Dec (i < j) → Among (f.number, n) (falling numbers)
        by_order (yes h) =
            rw (mine, other) at (falls_at numbers i j h (rw (length-map checks (λ (c : Check). c.number)) g) (let a = mine in let b = other in omega arith))
        by_order (no h) = by_place (dec_lt j i)
          where
            by_place : Dec (j < i) → Among (f.number, n) (falling numbers)
            by_place (yes e) = absurd (true≢false (sym (ap (λ (x : Check). x.condition) s) ∙ before j e))
            by_place (no e) =
                let same : i ≡ j = omega arith in
                let both : get_or numbers i 0 ≡ get_or numbers j 0 = ap (λ (k : ℕ). get_or numbers k 0) same in
                let a = mine in let b = other in
                absurd (omega arith)

-- no check's condition holds
abbrev pub Passing : List Check → Type 0
Passing [] = Unit {0}
Passing (r ∷ rs) = (r.condition ≡ false) × Passing rs

-- told check after check
infixr 5 ◌&◌
pub ◌&◌ : {A B : Type 0} → A → B → A × B
a & b = (a, b)

-- then nothing is refused
pub all_pass : (checks : List Check) → Passing checks → judge checks ≡ passed
all_pass [] p = refl
all_pass (r ∷ rs) (e, p) = judge_on r rs e ∙ all_pass rs p

-- and the other way round
passing_of : (checks : List Check) → T (apart checks) → (judge checks).number ≡ 0 → Passing checks
passing_of [] t e = tt
passing_of (r ∷ rs) t e = by_test r.condition refl (passing_of rs (rest_apart r rs t))
  where
    by_test : (c : Bool) → r.condition ≡ c → ((judge rs).number ≡ 0 → Passing rs) → Passing (r ∷ rs)
    by_test true q rest =
        let h = above_0 r rs t in
        let same : (judge (r ∷ rs)).number ≡ r.number = ap (λ (f : Outcome). f.number) (judge_here r rs q h) in
        absurd (omega arith)
    by_test false q rest = (q, rest (ap (λ (f : Outcome). f.number) (sym (judge_on r rs q)) ∙ e))

-- the condition and the place of the check that has a number
abbrev pub condition_of : ℕ → List Check → Bool
condition_of n [] = false
condition_of n (r ∷ rs) = pick (eqb r.number n) r.condition (condition_of n rs)

abbrev pub place_of : ℕ → List Check → ℕ
place_of n [] = 0
place_of n (r ∷ rs) = pick (eqb r.number n) r.place (place_of n rs)

-- either way it is false
picked_false : (b : Bool) {c d : Bool} → c ≡ false → d ≡ false → pick b c d ≡ false
picked_false true e q = e
picked_false false e q = q

none_of : (checks : List Check) → Passing checks → (n : ℕ) → condition_of n checks ≡ false
none_of [] p n = refl
none_of (r ∷ rs) (e, p) n = picked_false (eqb r.number n) e (none_of rs p n)

-- where nothing is refused, no number's condition holds
pub none_holds : (checks : List Check) → T (apart checks) → (judge checks).number ≡ 0 → (n : ℕ) → condition_of n checks ≡ false
none_holds checks t e = none_of checks (passing_of checks t e)

-- number 0 comes with place 0
pub nothing_refused : (checks : List Check) → T (apart checks) → (judge checks).number ≡ 0 → judge checks ≡ passed
nothing_refused checks t e = all_pass checks (passing_of checks t e)

not_lacked : (n : ℕ) (checks : List Check) → T (lacks n checks) → condition_of n checks ≡ false
not_lacked n [] t = refl
not_lacked n (r ∷ rs) t = by_test (eqb r.number n) t (not_lacked n rs)
  where
    by_test : (b : Bool) → T (both (not b) (lacks n rs)) → (T (lacks n rs) → condition_of n rs ≡ false) → pick b r.condition (condition_of n rs) ≡ false
    by_test true t rest = absurd t
    by_test false t rest = rest t

-- the number returned is that of its check: the condition holds, and the place is the one returned
pub check_returned : (checks : List Check) → T (apart checks) → (n : ℕ) → 0 < n → (judge checks).number ≡ n
    → (condition_of n checks ≡ true) × (place_of n checks ≡ (judge checks).place)
check_returned [] t n h e = absurd (omega arith)
check_returned (r ∷ rs) t n h e = by_test r.condition refl (check_returned rs (rest_apart r rs t) n h)
  where
    by_test : (c : Bool) → r.condition ≡ c → ((judge rs).number ≡ n → (condition_of n rs ≡ true) × (place_of n rs ≡ (judge rs).place))
        → (condition_of n (r ∷ rs) ≡ true) × (place_of n (r ∷ rs) ≡ (judge (r ∷ rs)).place)
    by_test true q rest =
        let here = judge_here r rs q (above_0 r rs t) in
        let same : r.number ≡ n = ap (λ (f : Outcome). f.number) (sym here) ∙ e in
        rw (eq-eqb r.number n same) (q, ap (λ (f : Outcome). f.place) (sym here))
    by_test false q rest =
        let on = judge_on r rs q in
        let (holds, place) = rest (ap (λ (f : Outcome). f.number) (sym on) ∙ e) in
        let other : r.number ≡ n → ⊥ = λ same. true≢false (sym holds ∙ not_lacked n rs (subst (λ (m : ℕ). T (lacks m rs)) same (lacked r rs t))) in
        rw (ne_eqb r.number n other) (holds, place ∙ ap (λ (f : Outcome). f.place) (sym on))

-- a table in two parts: the second is judged below what the first came to
pub judge_append : (f : Outcome) (checks more : List Check) → judge_below f (checks ++ more) ≡ judge_below (judge_below f checks) more
judge_append f [] more = refl
judge_append f (r ∷ rs) more = judge_append (or_if f r.condition r.number r.place) rs more

-- a check that does not hold may be left out
pub failing_left_out : (checks more : List Check) (n p : ℕ) → judge (checks ++ (check false n p ∷ more)) ≡ judge (checks ++ more)
unfolding or_if
failing_left_out checks more n p =
    judge_append passed checks (check false n p ∷ more) ∙ ap (λ (f : Outcome). judge_below f more) (by_test (eqb (judge checks).number 0)) ∙ sym (judge_append passed checks more)
  where
    by_test : (b : Bool) → pick b (judge checks) (judge checks) ≡ judge checks
    by_test true = refl
    by_test false = refl

-- a refusal by the first part stands
pub first_part_stands : (checks more : List Check) → 0 < (judge checks).number → judge (checks ++ more) ≡ judge checks
first_part_stands checks more h = judge_append passed checks more ∙ refusal_stands (judge checks) more h

-- every check reports place 0
abbrev pub placeless : List Check → Bool
placeless [] = true
placeless (r ∷ rs) = both (eqb r.place 0) (placeless rs)

check_placeless : (f : Outcome) (c : Bool) (n p : ℕ) → f.place ≡ 0 → p ≡ 0 → (or_if f c n p).place ≡ 0
unfolding or_if
check_placeless f c n p e q = by_tests (eqb f.number 0) c
  where
    by_tests : (none holds : Bool) → (pick none (pick holds (refused n p) f) f).place ≡ 0
    by_tests true true = q
    by_tests true false = e
    by_tests false holds = e

placeless_below : (f : Outcome) (checks : List Check) → f.place ≡ 0 → T (placeless checks) → (judge_below f checks).place ≡ 0
placeless_below f [] e t = e
placeless_below f (r ∷ rs) e t =
    let q = eqb→eq r.place 0 (both_left (eqb r.place 0) (placeless rs) t) in
    placeless_below (or_if f r.condition r.number r.place) rs
    (check_placeless f r.condition r.number r.place e q)
    (both_right (eqb r.place 0) (placeless rs) t)

-- then so does the table
pub no_place : (checks : List Check) → T (placeless checks) → (judge checks).place ≡ 0
no_place checks t = placeless_below passed checks refl t
