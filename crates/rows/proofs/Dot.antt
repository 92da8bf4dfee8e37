-- Multipliers times terms, summed: as the multipliers add up, so do the sums.
use mathlib.Core.Path.{◌≡◌, refl, ap₂, sym, ◌∙◌}
use mathlib.Core.List.{List, [], ◌∷◌}
use lib.IntN.{ℤ, pos, suc_ℤ, pred_ℤ, ◌+ℤ◌, ◌*ℤ◌, suc-pred, +ℤ_idl, +ℤ_idr, zero-*ℤ, suc_ℤ-*ℤ}
use Rattle.rows.specs.Rows.{dot}
use Rattle.rows.proofs.Integers.{by_steps, +ℤ-cross, +ℤ-times}

-- two lists of multipliers added up, column by column
unfoldable pub plus : List ℤ → List ℤ → List ℤ
plus [] ls = ls
plus (k ∷ ks) [] = k ∷ ks
plus (k ∷ ks) (l ∷ ls) = (k +ℤ l) ∷ plus ks ls

-- a list of multipliers c times
unfoldable pub multiple : ℤ → List ℤ → List ℤ
multiple c [] = []
multiple c (k ∷ ks) = (c *ℤ k) ∷ multiple c ks

pub dot_plus : (ks ls ts : List ℤ) → dot (plus ks ls) ts ≡ dot ks ts +ℤ dot ls ts
unfolding dot plus
dot_plus [] ls ts = sym (+ℤ_idl (dot ls ts))
dot_plus (k ∷ ks) [] ts = sym (+ℤ_idr (dot (k ∷ ks) ts))
dot_plus (k ∷ ks) (l ∷ ls) [] = refl
dot_plus (k ∷ ks) (l ∷ ls) (t ∷ ts) =
    ap₂ ◌+ℤ◌ (+ℤ-times k l t) (dot_plus ks ls ts) ∙ +ℤ-cross (k *ℤ t) (l *ℤ t) (dot ks ts) (dot ls ts)

multiple_zero : (ks ts : List ℤ) → dot (multiple (pos 0) ks) ts ≡ pos 0
unfolding dot multiple
multiple_zero [] ts = refl
multiple_zero (k ∷ ks) [] = refl
multiple_zero (k ∷ ks) (t ∷ ts) = rw (zero-*ℤ k, zero-*ℤ t, multiple_zero ks ts)

multiple_suc : (c : ℤ) (ks : List ℤ) → multiple (suc_ℤ c) ks ≡ plus (multiple c ks) ks
unfolding multiple plus
multiple_suc c [] = refl
multiple_suc c (k ∷ ks) = ap₂ ◌∷◌ (suc_ℤ-*ℤ c k) (multiple_suc c ks)

-- multipliers whose sum is 0 add nothing, taken any number of times
module _ (ks ts : List ℤ) (none : dot ks ts ≡ pos 0) where
  one_more : (c : ℤ) → dot (multiple (suc_ℤ c) ks) ts ≡ dot (multiple c ks) ts
  one_more c = rw (multiple_suc, dot_plus, none) (+ℤ_idr (dot (multiple c ks) ts))

  pub dot_multiple : (c : ℤ) → dot (multiple c ks) ts ≡ pos 0
  dot_multiple c =
      by_steps (λ x. dot (multiple x ks) ts ≡ pos 0)
      (multiple_zero ks ts)
      (λ m e. one_more m ∙ e)
      (λ m e. sym (one_more (pred_ℤ m)) ∙ rw (suc-pred m) e)
      c
