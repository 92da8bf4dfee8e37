-- A list that is written element by element: with one more, and whole.
use Rattle.std.proofs.Common.{◌≡◌, ◌∙◌, refl, sym, ap, ℕ, ◌+◌, ◌<◌, ◌≤◌, List, [], ◌∷◌, ◌++◌, length, take, set, add-one}
use Rattle.std.proofs.Math.Seq.{take-suc-set, take_all}
use Rattle.cli_picture.specs.Listed.{listed}

pub begins : (f : ℕ → ℕ) → [] ≡ listed 0 f
unfolding listed
begins f = refl

pub turns : (f : ℕ → ℕ) (out : List ℕ) (i x : ℕ) → take i out ≡ listed i f → i < length out → x ≡ f i → take (i + 1) (set out i x) ≡ listed (i + 1) f
unfolding listed
turns f out i x written h e =
    rw add-one (take-suc-set out i x h ∙ ap (λ (l : List ℕ). l ++ (x ∷ [])) written ∙ ap (λ (y : ℕ). listed i f ++ (y ∷ [])) e)

pub ends : (f : ℕ → ℕ) (out : List ℕ) (i : ℕ) → take i out ≡ listed i f → length out ≤ i → out ≡ listed i f
ends f out i written h = sym (take_all i out h) ∙ written
