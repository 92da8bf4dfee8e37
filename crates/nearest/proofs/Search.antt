-- The search finds the smallest change, of any test that finds some density and not the own one, and there is no other.
use mathlib.Core.Path.{◌≡◌, ◌∙◌, refl, sym, ap, subst}
use mathlib.Core.Bool.{Bool, true, false, true≢false}
use Prim.Native.Nat.{ℕ, zero, suc, ◌+◌, ◌-◌, ◌≤◌, ◌<◌, zero-le}
use native.Mathlib.Nat.{le_refl, le_antisymm, lt_of_not-le, suc_inj}
use native.Mathlib.Decide.{dec_le}
use native.Mathlib.Omega.{arith}
use lib.Dec.{leb, le→leb}
use lib.IntN.{ℤ, pos, negsuc, neg_ℤ, nat_abs, ◌-ℤ◌, +ℤ_comm, +ℤ-neg_ℤ_cancel, pos-+ℤ-pos}
use lib.Signed.{◌≤ℤ◌, le_z_yes}
use borrow.Author.Tests.{leb-true, le-leb}
use Rattle.choice.specs.Choice.{both}
use Rattle.choice.proofs.Choice.{both_first, both_second}
use Rattle.floats.proofs.Signs.{nat_abs_neg, pos_minus, nat_abs_minus}
use Rattle.scheme.specs.Sums.{gap}
use Rattle.nearest.specs.Nearest.{searched, NoLater, Smallest}

-- of two changes of one size the one below 0 is the lower
lower_down : (s : ℕ) (w : ℤ) → s ≡ nat_abs w → neg_ℤ (pos s) ≤ℤ w
lower_down zero (pos n) e = le_z_yes (le→leb 0 n zero-le)
lower_down zero (negsuc n) e = absurd (omega (arith, e))
lower_down (suc m) (pos n) e = le_z_yes tt
lower_down (suc m) (negsuc n) e = le_z_yes (le→leb n m (omega (arith, e)))

-- a change down comes before all that are no smaller
later_down : (s x own : ℕ) → s ≤ gap x own → NoLater (neg_ℤ (pos s)) (pos x -ℤ pos own)
unfolding gap
later_down s x own h = record {
  size = rw (nat_abs_neg (pos s), nat_abs_minus x own) h;
  down_first = λ e. lower_down s (pos x -ℤ pos own) (rw (nat_abs_neg (pos s)) at e);
}

-- a change up comes before those up that are no smaller, and those down that are larger
later_up : (s x own : ℕ) → (own ≤ x → s ≤ x - own) → (x < own → s < own - x) → NoLater (pos s) (pos x -ℤ pos own)
unfolding gap
later_up s x own up down = by_order (dec_le own x)
  where
    by_order : Dec (own ≤ x) → NoLater (pos s) (pos x -ℤ pos own)
    by_order (yes h) = rw (pos_minus h) (record { size = up h; down_first = λ e. le_z_yes (le→leb s (x - own) (up h)) })
    by_order (no n) =
        let h = lt_of_not-le n in
        let size = nat_abs_minus x own in
        let further = down h in
        record { size = omega arith; down_first = λ e. absurd (omega (arith, e)) }

-- two changes of which neither comes later are one
no_later_once : (z w : ℤ) → NoLater z w → NoLater w z → z ≡ w
no_later_once (pos m) (pos n) a b = ap pos (le_antisymm a.size b.size)
no_later_once (pos m) (negsuc n) a b = absurd (a.down_first (le_antisymm a.size b.size)).le
no_later_once (negsuc m) (pos n) a b = absurd (b.down_first (le_antisymm b.size a.size)).le
no_later_once (negsuc m) (negsuc n) a b = ap negsuc (suc_inj (le_antisymm a.size b.size))

module _ (test : ℕ → Bool) (jam own : ℕ) where
  -- a density that would be no nearer, were it found, is not found where it is nearer
  not_found : {s d : ℕ} (x : ℕ) → (test x ≡ true → s ≤ d) → d < s → test x ≡ false
  not_found {s} {d} x no-nearer near = by_test (test x) refl
    where
      by_test : (b : Bool) → test x ≡ b → test x ≡ false
      by_test true e = absurd (omega (arith, no-nearer e))
      by_test false e = e

  -- a change down and a change up that are found, and come before all others
  pub smallest_down : (s : ℕ) → 1 ≤ s → s ≤ own → own ≤ jam → test (own - s) ≡ true
      → ((x : ℕ) → x ≤ jam → test x ≡ true → s ≤ gap x own) → Smallest test jam own (neg_ℤ (pos s))
  smallest_down s low high within found least = record {
    some = λ e. let size = sym (nat_abs_neg (pos s)) ∙ ap nat_abs e in omega arith;
    density = own - s;
    changed = sym (pos_minus high);
    within = omega arith;
    found = found;
    least = λ x h t. later_down s x own (least x h t);
    nearer = λ x h n. not_found x (λ t. (later_down s x own (least x h t)).size) n;
  }

  pub smallest_up : (s : ℕ) → 1 ≤ s → own + s ≤ jam → test (own + s) ≡ true
      → ((x : ℕ) → x ≤ jam → test x ≡ true → (own ≤ x → s ≤ x - own) × (x < own → s < own - x)) → Smallest test jam own (pos s)
  smallest_up s low high found least = record {
    some = λ e. let size = ap nat_abs e in omega arith;
    density = own + s;
    changed = sym (pos-+ℤ-pos own s);
    within = high;
    found = found;
    least = λ x h t. later_up s x own (least x h t).0 (least x h t).1;
    nearer = λ x h n. not_found x (λ t. (later_up s x own (least x h t).0 (least x h t).1).size) n;
  }

  -- the change, by the changed density; it is no larger than jam
  by_density : {z : ℤ} (a : Smallest test jam own z) → pos a.density -ℤ pos own ≡ z
  by_density {z} a = ap (λ (y : ℤ). y -ℤ pos own) (a.changed ∙ +ℤ_comm (pos own) z) ∙ +ℤ-neg_ℤ_cancel z (pos own)

  pub smallest_small : {z : ℤ} → Smallest test jam own z → own ≤ jam → nat_abs z ≤ jam
  unfolding gap
  smallest_small a high = let size = sym (nat_abs_minus a.density own) ∙ ap nat_abs (by_density a) in let within = a.within in omega arith

  -- there is one smallest change
  pub smallest_once : {z w : ℤ} → Smallest test jam own z → Smallest test jam own w → z ≡ w
  smallest_once {z} {w} a b = no_later_once z w (before a b) (before b a)
    where
      before : {z w : ℤ} → Smallest test jam own z → Smallest test jam own w → NoLater z w
      before {z} {w} a b = subst (NoLater z) (by_density b) (a.least b.density b.within b.found)

  -- what the search tests of a size
  abbrev down? : ℕ → Bool
  down? s = both (leb s own) (test (own - s))

  abbrev up? : ℕ → Bool
  up? s = both (leb (own + s) jam) (test (own + s))

  -- one size: found below, found above, or not found
  module _ (s k : ℕ) where
    found_down : down? s ≡ true → searched test jam own s (suc k) ≡ neg_ℤ (pos s)
    unfolding searched
    found_down d = simp d

    found_up : down? s ≡ false → up? s ≡ true → searched test jam own s (suc k) ≡ pos s
    unfolding searched
    found_up d u = simp (d, u)

    found_later : down? s ≡ false → up? s ≡ false → searched test jam own s (suc k) ≡ searched test jam own (suc s) k
    unfolding searched
    found_later d u = simp (d, u)

    turn : (P : ℤ → Type 0) → (down? s ≡ true → P (neg_ℤ (pos s))) → (down? s ≡ false → up? s ≡ true → P (pos s))
        → (down? s ≡ false → up? s ≡ false → P (searched test jam own (suc s) k)) → P (searched test jam own s (suc k))
    turn P down up on = by_down (down? s) refl
      where
        by_up : (b : Bool) → up? s ≡ b → down? s ≡ false → P (searched test jam own s (suc k))
        by_up true u d = subst P (sym (found_up d u)) (up d u)
        by_up false u d = subst P (sym (found_later d u)) (on d u)

        by_down : (b : Bool) → down? s ≡ b → P (searched test jam own s (suc k))
        by_down true d = subst P (sym (found_down d)) (down d)
        by_down false d = by_up (up? s) refl d

  -- what is found at a size is found by its test
  not_down : {s : ℕ} → down? s ≡ false → (x : ℕ) → test x ≡ true → x < own → s ≡ own - x → ⊥
  not_down {s} none x t h e =
      true≢false (sym (simp (le-leb s own (omega arith)) (ap test {x = own - s} {y = x} (omega arith) ∙ t)) ∙ none)

  not_up : {s : ℕ} → up? s ≡ false → (x : ℕ) → x ≤ jam → test x ≡ true → own ≤ x → s ≡ x - own → ⊥
  not_up {s} none x g t h e =
      true≢false (sym (simp (le-leb (own + s) jam (omega arith)) (ap test {x = own + s} {y = x} (omega arith) ∙ t)) ∙ none)

  -- from size s on, where the test finds nothing nearer but something within jam
  from : (k s : ℕ) → 1 ≤ s → s + k ≡ suc jam → own ≤ jam → ((x : ℕ) → x ≤ jam → test x ≡ true → s ≤ gap x own)
      → (w : ℕ) → w ≤ jam → test w ≡ true → Smallest test jam own (searched test jam own s k)
  unfolding gap
  from zero s low all high none w g t = absurd (let far = none w g t in omega arith)
  from (suc k) s low all high none w g t =
      turn s k (Smallest test jam own)
      (λ d. smallest_down s low (leb-true s own (both_first (leb s own) (test (own - s)) d)) high (both_second (leb s own) (test (own - s)) d) none)
      (λ d u. smallest_up s low (leb-true (own + s) jam (both_first (leb (own + s) jam) (test (own + s)) u)) (both_second (leb (own + s) jam) (test (own + s)) u)
      (λ x h f. (λ o. let far = none x h f in omega arith, λ o. above x o (none x h f) (not_down d x f o))))
      (λ d u. from k (suc s) (omega arith) (omega arith) high (λ x h f. further d u x h f (dec_le own x)) w g t)
    where
      above : (x : ℕ) → x < own → s ≤ (x - own) + (own - x) → (s ≡ own - x → ⊥) → s < own - x
      above x o far not = by_tie (dec_le (own - x) s)
        where
          by_tie : Dec (own - x ≤ s) → s < own - x
          by_tie (yes h) = absurd (not (omega arith))
          by_tie (no n) = lt_of_not-le n

      further : down? s ≡ false → up? s ≡ false → (x : ℕ) → x ≤ jam → test x ≡ true → Dec (own ≤ x) → suc s ≤ (x - own) + (own - x)
      further d u x h f (no n) = let o = lt_of_not-le n in let more = above x o (none x h f) (not_down d x f o) in omega arith
      further d u x h f (yes o) = by_tie (dec_le (x - own) s)
        where
          by_tie : Dec (x - own ≤ s) → suc s ≤ (x - own) + (own - x)
          by_tie (yes e) = absurd (not_up u x h f o (let far = none x h f in omega arith))
          by_tie (no m) = let more = lt_of_not-le m in omega arith

  -- a search over all sizes, of a test that does not find the own density itself but some other
  pub search_smallest : own ≤ jam → test own ≡ false → (w : ℕ) → w ≤ jam → test w ≡ true → Smallest test jam own (searched test jam own 1 jam)
  unfolding gap
  search_smallest high none w g t = from jam 1 (le_refl 1) (omega arith) high (λ x h f. apart x f (dec_le ((x - own) + (own - x)) 0)) w g t
    where
      apart : (x : ℕ) → test x ≡ true → Dec ((x - own) + (own - x) ≤ 0) → 1 ≤ (x - own) + (own - x)
      apart x f (yes e) = absurd (true≢false (sym f ∙ ap test {x = x} {y = own} (omega arith) ∙ none))
      apart x f (no n) = lt_of_not-le n
