-- Keywords: a word against a name, and the search for its key.
use mathlib.Core.Path.{◌≡◌, ◌∙◌, refl, ap, sym}
use mathlib.Core.Bool.{Bool, true, false, cond, ◌&&◌}
use mathlib.Core.List.{List, [], ◌∷◌, ◌++◌, map}
use Prim.Native.Nat.{ℕ}
use lib.Dec.{eqb}
use borrow.Author.Tests.{eq-eqb, eqb-true, eqb-false, ne_eqb}
use Rattle.std.specs.Prelude.{Option, Some}
use Rattle.std.specs.Bool.{◌==◌}
use Rattle.std.specs.List.{list_all, find}
use Rattle.std.specs.Option.{option_map}
use Rattle.choice.specs.Choice.{pick, both}
use Rattle.cli_vocabulary.specs.Keys.{is_name, key_row, keys, keyword, named_in, key_named}
use Rattle.cli_vocabulary.specs.declared.keys.Key.{Key}
use Rattle.cli_vocabulary.specs.declared.keys.Row.{Row}
use Rattle.cli_vocabulary.specs.declared.keys.TheConstants.{TABLE}
use Rattle.cli_vocabulary.proofs.KeyTable.{row_key, rows}

eqb_swapped : (a b : ℕ) → eqb a b ≡ eqb b a
eqb_swapped a b = by_test (eqb b a) refl
  where
    by_test : (t : Bool) → eqb b a ≡ t → eqb a b ≡ t
    by_test true e = eq-eqb a b (sym (eqb-true b a e))
    by_test false e = ne_eqb a b (λ f. eqb-false b a e (sym f))

pub padding : (rest : List ℕ) → list_all (λ b. b == 32) rest ≡ is_name [] rest
unfolding is_name
padding [] = refl
padding (b ∷ bs) = rw (eqb_swapped b 32, padding bs) (by_test (eqb 32 b))
  where
    by_test : (t : Bool) → t && is_name [] bs ≡ both t (is_name [] bs)
    by_test true = refl
    by_test false = refl

-- a name that starts with the word
pub name_starts : (word rest : List ℕ) → is_name word (word ++ rest) ≡ is_name [] rest
unfolding is_name
name_starts [] rest = refl
name_starts (b ∷ bs) rest = rw (eq-eqb b b refl) (name_starts bs rest)

pub name_differs : (word name : List ℕ) → ((rest : List ℕ) → name ≡ word ++ rest → ⊥) → is_name word name ≡ false
unfolding is_name
name_differs [] name n = absurd (n name refl)
name_differs (b ∷ bs) [] n = refl
name_differs (b ∷ bs) (c ∷ cs) n = by_test (eqb b c) refl (λ e. name_differs bs cs (λ rest f. n rest (rw (eqb-true b c e, f) refl)))
  where
    by_test : (t : Bool) → eqb b c ≡ t → (eqb b c ≡ true → is_name bs cs ≡ false) → both t (is_name bs cs) ≡ false
    by_test false e more = refl
    by_test true e more = more e

-- the first row of some keys that has the word for its name
found_in : (ks : List Key) (word : List ℕ) → option_map (λ (r : Row). r.0) (find (λ r. is_name word r.1) (map key_row ks)) ≡ named_in ks word
unfolding named_in
found_in [] word = refl
found_in (k ∷ ks) word = by_test (is_name word (keyword k)) (found_in ks word)
  where
    by_test : (t : Bool) → option_map (λ (r : Row). r.0) (find (λ r. is_name word r.1) (map key_row ks)) ≡ named_in ks word
        → option_map (λ (r : Row). r.0) (cond t (Some (key_row k)) (find (λ r. is_name word r.1) (map key_row ks))) ≡ pick t (Some k) (named_in ks word)
    by_test true more = ap Some (row_key k)
    by_test false more = more

pub key_found : (word : List ℕ) (r : Option Row) → r ≡ find (λ row. is_name word row.1) TABLE → option_map (λ (r : Row). r.0) r ≡ key_named word
unfolding key_named
key_found word r e =
    ap (option_map (λ (r : Row). r.0)) (e ∙ ap (find (λ row. is_name word row.1)) rows) ∙ found_in keys word
