-- The settling run: its steps are the least that a still step follows, the loop of the code makes them, and they lead to the state of the full run.
use mathlib.Core.Path.{◌≡◌, ◌∙◌, refl, sym, ap}
use mathlib.Core.Bool.{Bool, true, false, true≢false, false≢true}
use mathlib.Core.List.{List}
use Prim.Native.Nat.{ℕ, zero, suc, ◌+◌, ◌-◌, ◌<◌, suc-le-suc, zero-le}
use native.Mathlib.Nat.{not-suc-le-zero, le_of_suc-le-suc, zero-add, suc-add, sub-zero, sub-eq-zero_of_le, le_of_eq}
use native.Mathlib.Numerals.{add-one}
use native.Mathlib.Omega.{arith}
use lib.ListN.{length, replicate}
use Rattle.road.specs.declared.Road.{Road}
use Rattle.scheme.specs.Sums.{Below}
use Rattle.scheme.specs.Runs.{iterated}
use Rattle.scheme.specs.Rounded.{round_step, round_run}
use Rattle.scheme.specs.Settling.{still, after, finds, steps_to, Least, settles, settle_steps, settle_cells, LeastStill}
use Rattle.scheme.specs.Calls.{SettledTo}
use Rattle.scheme.proofs.Faces.{still_means}
use Rattle.scheme.proofs.Promises.{after_run}

module _ (S : List ℕ → List ℕ) where
  -- one step more, at the end or at the start
  iterated_more : (k : ℕ) (xs : List ℕ) → S (iterated S k xs) ≡ iterated S (suc k) xs
  unfolding iterated
  iterated_more zero xs = refl
  iterated_more (suc k) xs = iterated_more k (S xs)

  -- k + m steps are m steps after k, and any number of steps keeps what one keeps
  iterated_add : (k m : ℕ) (xs : List ℕ) → iterated S (k + m) xs ≡ iterated S m (iterated S k xs)
  unfolding iterated
  iterated_add zero m xs = ap (λ (n : ℕ). iterated S n xs) (zero-add m)
  iterated_add (suc k) m xs = ap (λ (n : ℕ). iterated S n xs) (suc-add k m) ∙ iterated_add k m (S xs)

  iterated_kept : (k : ℕ) (xs : List ℕ) → S xs ≡ xs → iterated S k xs ≡ xs
  unfolding iterated
  iterated_kept zero xs e = refl
  iterated_kept (suc k) xs e = ap (iterated S k) e ∙ iterated_kept k xs e

module _ (S : List ℕ → List ℕ) (T : List ℕ → Bool) where
  -- one turn of the search, by the test
  ends_here : (t : ℕ) (xs : List ℕ) → T xs ≡ true → (finds S T (suc t) xs ≡ true) × (steps_to S T (suc t) xs ≡ 0)
  unfolding finds steps_to
  ends_here t xs e = (rw e, rw e)

  goes_on : (t : ℕ) (xs : List ℕ) → T xs ≡ false → (finds S T (suc t) xs ≡ finds S T t (S xs)) × (steps_to S T (suc t) xs ≡ suc (steps_to S T t (S xs)))
  unfolding finds steps_to
  goes_on t xs e = (rw e, rw e)

  -- the test finds the first state
  found_now : (t : ℕ) (xs : List ℕ) → T xs ≡ true → Least S T (suc t) xs true 0
  unfolding iterated
  found_now t xs e = record {
    before = λ j h. absurd (not-suc-le-zero h);
    within = λ q. suc-le-suc zero-le;
    found = λ q. e;
    none = λ q. absurd (true≢false q);
  }

  -- or the search goes on from the next
  found_later : (t : ℕ) (xs : List ℕ) → T xs ≡ false → (settled : Bool) (k : ℕ) → Least S T t (S xs) settled k → Least S T (suc t) xs settled (suc k)
  unfolding iterated
  found_later t xs e settled k rest = record {
    before = earlier;
    within = λ q. suc-le-suc (rest.within q);
    found = rest.found;
    none = λ q. ap suc (rest.none q);
  }
    where
      earlier : (j : ℕ) → j < suc k → T (iterated S j xs) ≡ false
      earlier zero h = e
      earlier (suc j) h = rest.before j (le_of_suc-le-suc h)

  -- the least k below t such that the test finds the state after k steps
  pub least : (t : ℕ) (xs : List ℕ) → Least S T t xs (finds S T t xs) (steps_to S T t xs)
  unfolding finds steps_to
  least zero xs = record {
    before = λ j h. absurd (not-suc-le-zero h);
    within = λ e. absurd (false≢true e);
    found = λ e. absurd (false≢true e);
    none = λ e. refl;
  }
  least (suc t) xs = by_test (T xs) refl (least t (S xs))
    where
      by_test : (b : Bool) → T xs ≡ b → Least S T t (S xs) (finds S T t (S xs)) (steps_to S T t (S xs))
          → Least S T (suc t) xs (finds S T (suc t) xs) (steps_to S T (suc t) xs)
      by_test true e rest = rw e (found_now t xs e)
      by_test false e rest = rw e (found_later t xs e (finds S T t (S xs)) (steps_to S T t (S xs)) rest)

  -- the loop after k steps, none of which was still
  pub record StillnessSought (j t : ℕ) (old cells : List ℕ) (k : ℕ) : Type 0 where
    pub long : length cells ≡ length old
    pub below : Below j cells
    pub reached : cells ≡ iterated S k old
    pub steps_left : k + steps_to S T (t - k) cells ≡ steps_to S T t old
    pub finds_left : finds S T (t - k) cells ≡ finds S T t old

  pub begins : {j : ℕ} (t : ℕ) (old : List ℕ) → Below j old → StillnessSought j t old old 0
  unfolding iterated
  begins t old h = record { long = refl; below = h; reached = refl; steps_left = rw (sub-zero t) (omega arith); finds_left = rw (sub-zero t) refl }

-- the next turn of the loop, of a step that keeps the number of cells and the range
module _ {S : List ℕ → List ℕ} {T : List ℕ → Bool} {j t : ℕ} {old cells : List ℕ} {k : ℕ} (now : StillnessSought S T j t old cells k) where
  one_less : k < t → t - k ≡ suc (t - suc k)
  one_less h = omega arith

  turn : (next : List ℕ) → k < t → T cells ≡ false → next ≡ S cells → length (S cells) ≡ length cells → Below j (S cells) → StillnessSought S T j t old next (suc k)
  turn next h e s long below =
      let on = goes_on S T (t - suc k) cells e in
      record {
        long = ap length s ∙ long ∙ now.long;
        below = rw s below;
        reached = s ∙ ap S now.reached ∙ iterated_more S k old;
        steps_left = rw s (omega (arith, rw (one_less h) at now.steps_left, on.1));
        finds_left = rw s (sym on.0 ∙ rw (one_less h) at now.finds_left);
      }

  pub turns : (next : List ℕ) → k < t → T cells ≡ false → next ≡ S cells → length (S cells) ≡ length cells → Below j (S cells) → StillnessSought S T j t old next (k + 1)
  turns = rw (add-one k) turn

module _ (r : Road) (caps : List ℕ) (up down : ℕ) where
  pub least_still : (t : ℕ) (xs : List ℕ) → LeastStill r caps up down t xs (settles r caps up down t xs) (settle_steps r caps up down t xs)
  unfolding settles settle_steps
  least_still = least (round_step r caps up down) (still r caps up down)

  -- the steps of a settling run one after the other; from a still state on any number of them keeps every cell, for good
  pub after_add : (k m : ℕ) (xs : List ℕ) → after r caps up down (k + m) xs ≡ after r caps up down m (after r caps up down k xs)
  after_add = iterated_add (round_step r caps up down)

  pub after_still : (k : ℕ) (xs : List ℕ) → still r caps up down xs ≡ true → after r caps up down k xs ≡ xs
  after_still k xs e = iterated_kept (round_step r caps up down) k xs ((still_means r caps up down xs).0 e)

  -- the state handed back is that after all T steps, settled or not: "the full forecast over T steps with the same ends and caps" (document 02, E8)
  pub full_run : (t : ℕ) (xs : List ℕ) → settle_cells r caps up down t xs ≡ round_run r caps (replicate t up) (replicate t down) xs
  unfolding settle_cells
  full_run t xs = by_answer (settles r caps up down t xs) (settle_steps r caps up down t xs) (least_still t xs) ∙ after_run r caps up down t xs
    where
      by_answer : (settled : Bool) (k : ℕ) → LeastStill r caps up down t xs settled k → after r caps up down k xs ≡ after r caps up down t xs
      by_answer true k l =
          let within = l.within refl in
          let rest : k + (t - k) ≡ t = omega arith in
          sym (after_still (t - k) (after r caps up down k xs) (l.found refl)) ∙ sym (after_add k (t - k) xs) ∙ ap (λ (n : ℕ). after r caps up down n xs) rest
      by_answer false k l = ap (λ (n : ℕ). after r caps up down n xs) (l.none refl)

  module _ {j t : ℕ} {old cells : List ℕ} {k : ℕ} (now : StillnessSought (round_step r caps up down) (still r caps up down) j t old cells k) where
    -- a still step follows
    pub settled : k < t → still r caps up down cells ≡ true → SettledTo r caps up down t old cells record { settled = true; steps = k }
    unfolding settles settle_steps settle_cells
    settled h e =
        let here = ends_here (round_step r caps up down) (still r caps up down) (t - suc k) cells e in
        let steps : k ≡ settle_steps r caps up down t old = omega (arith, rw (one_less now h) at now.steps_left, here.1) in
        record {
          cells = now.reached ∙ ap (λ (n : ℕ). iterated (round_step r caps up down) n old) steps;
          settled = sym here.0 ∙ rw (one_less now h) at now.finds_left;
          steps = steps;
        }

    -- the horizon is used up
    pub unsettled : k ≡ t → SettledTo r caps up down t old cells record { settled = false; steps = t }
    unfolding settles settle_steps settle_cells
    unsettled all =
        let none = sub-eq-zero_of_le (le_of_eq (sym all)) in
        let steps : t ≡ settle_steps r caps up down t old = omega (arith, rw none at now.steps_left) in
        record {
          cells = now.reached ∙ ap (λ (n : ℕ). iterated (round_step r caps up down) n old) (all ∙ steps);
          settled = rw none at now.finds_left;
          steps = steps;
        }
