-- Monotone: a fuller road with fuller ends stays fuller, cell by cell.
use mathlib.Core.List.{List}
use Prim.Native.Nat.{ℕ, suc, ◌+◌, ◌-◌, ◌*◌, ◌≤◌}
use native.Mathlib.Nat.{mul-sub, mul-le-mul_left}
use native.Mathlib.Decide.{dec_le}
use native.Mathlib.Omega.{arith}
use Rattle.flux.specs.Law.{Law}
use Rattle.scheme.specs.Advance.{ahead, advance, entering, stepped}
use Rattle.scheme.specs.Partners.{Lawful}
use Rattle.scheme.proofs.Lists.{Pairs, none, one}

-- what stands ahead is ordered too, the ghost cells being so
pub ahead_ordered : {d d' : ℕ} {xs ys : List ℕ} → d ≤ d' → Pairs ◌≤◌ xs ys → ahead d xs ≤ ahead d' ys
unfolding ahead
ahead_ordered h none = h
ahead_ordered h (one p t) = p

-- a cell's own density: a fuller cell ends no emptier, between a left face G and a right face H
module _ {m j c : ℕ} {G H : ℕ → ℕ → ℕ} (lawG : Law m j c G) (lawH : Law m j c H) (l r : ℕ) where
  own_free : (o o' : ℕ) → o ≤ o' → o' ≤ c → m * o + G l o + H o' r ≤ m * o' + G l o' + H o r
  own_free o o' h f =
      omega (arith, lawG.free_in l o o' h f, lawH.free_out o o' r h f, mul-sub m o' o, mul-le-mul_left m h)

  own_full : (o o' : ℕ) → c ≤ o → o ≤ o' → m * o + G l o + H o' r ≤ m * o' + G l o' + H o r
  own_full o o' f h =
      omega (arith, lawG.full_in l o o' f h, lawH.full_out o o' r f h, mul-sub m o' o, mul-le-mul_left m h)

  pub own_cell : (o o' : ℕ) → o ≤ o' → m * o + G l o + H o' r ≤ m * o' + G l o' + H o r
  own_cell o o' h = go (dec_le o' c) (dec_le c o)
    where
      go : Dec (o' ≤ c) → Dec (c ≤ o) → m * o + G l o + H o' r ≤ m * o' + G l o' + H o r
      go (yes f) e = own_free o o' h f
      go (no f) (yes e) = own_full o o' e h
      go (no f) (no e) = omega (arith, own_free o c (omega arith) (omega arith), own_full c o' (omega arith) (omega arith))

module _ {m j c : ℕ} {F : ℕ → ℕ → ℕ → ℕ} (laws : Lawful m j c F) where
  -- along the list, l and l' being the densities to its left
  advance_ordered : {d d' : ℕ} {xs ys : List ℕ} (i l l' : ℕ) → l ≤ l' → d ≤ d' → Pairs ◌≤◌ xs ys
      → Pairs ◌≤◌ (advance m F (suc i) (F i l (ahead d xs)) d xs) (advance m F (suc i) (F i l' (ahead d' ys)) d' ys)
  unfolding advance ahead
  advance_ordered i l l' hl hd none = none
  advance_ordered {d} {d'} i l l' hl hd (one {x} {y} {xs} {ys} h t) =
      let r : ℕ = ahead d xs in
      let r' : ℕ = ahead d' ys in
      let cell : m * x + F i l x - F (suc i) x r ≤ m * y + F i l' y - F (suc i) y r' =
      omega (
        arith,
        own_cell (laws i) (laws (suc i)) l r x y h,
        (laws i).up l l' y hl,
        (laws (suc i)).down y r r' (ahead_ordered hd t),
        (laws (suc i)).send x r,
      ) in
      one cell (advance_ordered (suc i) x y h hd t)

  pub stepped_ordered : {u u' d d' : ℕ} {xs ys : List ℕ} → Pairs ◌≤◌ xs ys → u ≤ u' → d ≤ d'
      → Pairs ◌≤◌ (stepped m F u d xs) (stepped m F u' d' ys)
  unfolding stepped entering
  stepped_ordered {u} {u'} p hu hd = advance_ordered 0 u u' hu hd p
