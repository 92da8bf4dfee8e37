-- The modes, midway: those before cell i are written.
use mathlib.Core.Path.{◌≡◌, ◌∙◌, refl, sym, ap}
use mathlib.Core.List.{List, [], ◌∷◌, ◌++◌, append-nil}
use Prim.Native.Nat.{ℕ, suc, ◌+◌, ◌≤◌, ◌<◌, zero-le}
use native.Mathlib.Numerals.{add-one}
use native.Mathlib.Omega.{arith}
use lib.ListN.{length, get_or, take, drop, set, length-set, drop_of_length-le}
use lib.Seq.{drop-cons, take-suc-set, take_all, append_snoc}
use Rattle.modes.specs.Modes.{mode_of, modes_of}

pub record Moding (word modes : List ℕ) (i : ℕ) : Type 0 where
  pub long : length word ≡ length modes + 1
  pub inside : i ≤ length modes
  pub rest : take i modes ++ modes_of (drop i word) ≡ modes_of word

pub begins : (word modes : List ℕ) → length word ≡ length modes + 1 → Moding word modes 0
begins word modes e = record { long = e; inside = zero-le; rest = refl }

module _ (word modes : List ℕ) (i : ℕ) (now : Moding word modes i) where
  turn : (m : ℕ) → i < length modes → m ≡ mode_of (get_or word i 0) (get_or word (suc i) 0) → Moding word (set modes i m) (suc i)
  unfolding modes_of
  turn m h e =
      let l = now.long in
      let s = get_or word i 0 in
      let t = get_or word (suc i) 0 in
      let after = drop (suc (suc i)) word in
      let second : drop (suc i) word ≡ t ∷ after = drop-cons word (suc i) 0 (omega arith) in
      let first : drop i word ≡ s ∷ t ∷ after =
      drop-cons word i 0 (omega arith) ∙ ap (λ (w : List ℕ). s ∷ w) second in
      let here : modes_of (drop i word) ≡ m ∷ modes_of (drop (suc i) word) =
      ap modes_of first ∙ ap (λ (x : ℕ). x ∷ modes_of (t ∷ after)) (sym e) ∙ ap (λ (w : List ℕ). m ∷ modes_of w) (sym second) in
      record {
        long = rw (length-set modes i m) l;
        inside = rw (length-set modes i m) h;
        rest = rw (take-suc-set modes i m h, append_snoc) (ap (λ (w : List ℕ). take i modes ++ w) (sym here) ∙ now.rest);
      }

  -- the same, with the indices as the code has them
  pub turns : (m : ℕ) → i < length modes → m ≡ mode_of (get_or word i 0) (get_or word (i + 1) 0) → Moding word (set modes i m) (i + 1)
  turns = rw (add-one i) turn

  pub ends : length modes ≤ i → modes ≡ modes_of word
  unfolding modes_of
  ends h =
      let l = now.long in
      let n = now.inside in
      let last : drop i word ≡ get_or word i 0 ∷ [] =
      drop-cons word i 0 (omega arith) ∙ ap (λ (w : List ℕ). get_or word i 0 ∷ w) (drop_of_length-le word {i = suc i} (omega arith)) in
      let all = rw (last, take_all i modes h) at now.rest in
      sym (append-nil modes) ∙ all
