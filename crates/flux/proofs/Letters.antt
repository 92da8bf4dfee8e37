-- Each pair of densities has exactly one letter, its letter's flow is the published one, and which letters may follow each other.
use mathlib.Core.Path.{◌≡◌, ◌∙◌, sym}
use mathlib.Core.Logic.{◌↔◌}
use Prim.Native.Nat.{ℕ, ◌+◌, ◌-◌, ◌*◌, ◌≤◌, ◌<◌, min}
use native.Mathlib.Nat.{le_of_lt, mul-le-mul_left, mul-lt-mul_of_pos_left, min-eq_left, min-eq_right, sub-le-sub_left, mul-sub, lt_of_not-le}
use native.Mathlib.Decide.{dec_le}
use native.Mathlib.Omega.{arith}
use borrow.Author.Tests.{lt-ltb, le-ltb, le-leb, lt-leb}
use Rattle.road.specs.Judgement.{Accepted}
use Rattle.road.specs.declared.Road.{Road}
use Rattle.choice.proofs.Choice.{both_false}
use Rattle.flux.specs.Face.{sending, receiving, numerator, letter_w, letter_l, letter_d, in_w, in_l, letter}
use Rattle.flux.proofs.Laws.{sending_free, sending_full, receiving_free, receiving_full}
use Rattle.flux.specs.Letters.{Lettered, PublishedFlow}

-- the four corners of the definition, by the two tests that the code makes
pub full_w : (r : Road) (a b : ℕ) → r.critical < b → r.wave * (r.jam - b) < r.free * a → letter r a b ≡ letter_w
unfolding letter in_w
full_w r a b h w = simp (lt-ltb _ _ h, lt-ltb _ _ w)

pub full_d : (r : Road) (a b : ℕ) → r.critical < b → r.free * a ≤ r.wave * (r.jam - b) → letter r a b ≡ letter_d
unfolding letter in_w in_l
full_d r a b h w = simp (lt-ltb _ _ h, le-ltb _ _ w, lt-leb _ _ h, both_false)

pub free_l : (r : Road) (a b : ℕ) → b ≤ r.critical → r.critical < a → letter r a b ≡ letter_l
unfolding letter in_w in_l
free_l r a b h w = simp (le-ltb _ _ h, lt-ltb _ _ w, le-leb _ _ h)

pub free_d : (r : Road) (a b : ℕ) → b ≤ r.critical → a ≤ r.critical → letter r a b ≡ letter_d
unfolding letter in_w in_l
free_d r a b h w = simp (le-ltb _ _ h, le-ltb _ _ w)

-- the numbers behind the regions: from critical on the room falls strictly, and p × C is what a cell at critical receives
module _ (r : Road) (ok : Accepted r) (a b : ℕ) where
  -- a free downstream cell takes all that a free upstream cell sends
  room_free : a ≤ r.critical → b ≤ r.critical → r.free * a ≤ r.wave * (r.jam - b)
  room_free h g =
      let sent = mul-le-mul_left r.free h in
      let room = mul-le-mul_left r.wave (sub-le-sub_left g r.jam) in
      let same = ok.balance in
      omega arith

  -- a full downstream cell that takes all that is sent has a free cell upstream
  free_above : r.critical < b → r.free * a ≤ r.wave * (r.jam - b) → a ≤ r.critical
  free_above h g = below (dec_le a r.critical)
    where
      less : r.jam - b < r.jam - r.critical
      less = let c = ok.critical_high in omega arith

      below : Dec (a ≤ r.critical) → a ≤ r.critical
      below (yes p) = p
      below (no n) =
          let sent : r.free * r.critical ≤ r.free * a = mul-le-mul_left r.free (le_of_lt (lt_of_not-le n)) in
          let room : r.wave * (r.jam - b) < r.wave * (r.jam - r.critical) = mul-lt-mul_of_pos_left less ok.wave_low in
          let same = ok.balance in
          absurd (omega arith)

module _ (r : Road) (ok : Accepted r) (a b : ℕ) where
  lettered_full : r.critical < b → Dec (r.free * a ≤ r.wave * (r.jam - b)) → Lettered r a b (letter r a b)
  lettered_full h (yes d) =
      let e = full_d r a b h d in
      record {
        known = omega arith;
        W = (λ w. absurd (let q = sym e ∙ w in omega arith), λ w. absurd (let s = w.1 in omega arith));
        L = (λ l. absurd (let q = sym e ∙ l in omega arith), λ l. absurd (let s = l.1 in omega arith));
        D = (λ _. (free_above r ok a b h d, d), λ _. e);
      }
  lettered_full h (no n) =
      let s = lt_of_not-le n in
      let e = full_w r a b h s in
      record {
        known = omega arith;
        W = (λ _. (h, s), λ _. e);
        L = (λ l. absurd (let q = sym e ∙ l in omega arith), λ l. absurd (let t = l.1 in omega arith));
        D = (λ d. absurd (let q = sym e ∙ d in omega arith), λ d. absurd (n d.1));
      }

  lettered_free : b ≤ r.critical → Dec (a ≤ r.critical) → Lettered r a b (letter r a b)
  lettered_free h (yes d) =
      let e = free_d r a b h d in
      record {
        known = omega arith;
        W = (λ w. absurd (let q = sym e ∙ w in omega arith), λ w. absurd (let s = w.0 in omega arith));
        L = (λ l. absurd (let q = sym e ∙ l in omega arith), λ l. absurd (let s = l.0 in omega arith));
        D = (λ _. (d, room_free r ok a b d h), λ _. e);
      }
  lettered_free h (no n) =
      let s = lt_of_not-le n in
      let e = free_l r a b h s in
      record {
        known = omega arith;
        W = (λ w. absurd (let q = sym e ∙ w in omega arith), λ w. absurd (let t = w.0 in omega arith));
        L = (λ _. (s, h), λ _. e);
        D = (λ d. absurd (let q = sym e ∙ d in omega arith), λ d. absurd (n d.0));
      }

  lettered_by : Dec (b ≤ r.critical) → Lettered r a b (letter r a b)
  lettered_by (yes h) = lettered_free h (dec_le a r.critical)
  lettered_by (no n) = lettered_full (lt_of_not-le n) (dec_le (r.free * a) (r.wave * (r.jam - b)))

  -- each pair of densities has exactly one letter, and it has it exactly when it lies in that letter's region
  pub one_letter : Lettered r a b (letter r a b)
  one_letter = lettered_by (dec_le b r.critical)

  -- letter by letter the flow numerator is the published one
  pub published : PublishedFlow r a b (letter r a b)
  unfolding numerator
  published = record { W = wave; L = full; D = free }
    where
      same : r.free * r.critical ≡ r.wave * (r.jam - r.critical)
      same = ok.balance

      -- what is sent is no less than any flow that neither p × a nor p × C is less than
      at_least : (f : ℕ) → f ≤ r.free * a → f ≤ r.free * r.critical → f ≤ sending r a
      at_least f h k = by_density (dec_le a r.critical)
        where
          by_density : Dec (a ≤ r.critical) → f ≤ sending r a
          by_density (yes g) = rw (sending_free r g) h
          by_density (no n) = rw (sending_full r (le_of_lt (lt_of_not-le n))) k

      wave : letter r a b ≡ letter_w → min (sending r a) (receiving r b) ≡ r.wave * (r.jam - b)
      wave e =
          let (h, w) = one_letter.W.0 e in
          let less = mul-le-mul_left r.wave (sub-le-sub_left (le_of_lt h) r.jam) in
          let enough = at_least (r.wave * (r.jam - b)) (le_of_lt w) (omega arith) in
          rw (receiving_full r (le_of_lt h)) (min-eq_right enough)

      full : letter r a b ≡ letter_l → min (sending r a) (receiving r b) ≡ r.free * r.critical
      full e =
          let (h, k) = one_letter.L.0 e in
          rw (sending_full r (le_of_lt h), receiving_free r k) (omega arith)

      free : letter r a b ≡ letter_d → min (sending r a) (receiving r b) ≡ r.free * a
      free e =
          let (h, d) = one_letter.D.0 e in
          let sent = mul-le-mul_left r.free h in
          by_density h d sent (dec_le b r.critical)
        where
          by_density : a ≤ r.critical → r.free * a ≤ r.wave * (r.jam - b) → r.free * a ≤ r.free * r.critical → Dec (b ≤ r.critical) → min (sending r a) (receiving r b) ≡ r.free * a
          by_density h d s (yes g) = rw (sending_free r h, receiving_free r g) (let e = same in omega arith)
          by_density h d s (no n) = rw (sending_free r h, receiving_full r (le_of_lt (lt_of_not-le n))) (min-eq_left d)

-- W is never followed by D, nor L by L
pub no_w_d : (r : Road) → Accepted r → (a b c : ℕ) → letter r a b ≡ letter_w → letter r b c ≡ letter_d → ⊥
no_w_d r ok a b c w d =
    let s = (one_letter r ok a b).W.0 w in
    let t = (one_letter r ok b c).D.0 d in
    omega (arith, s.0, t.0)

pub no_l_l : (r : Road) → Accepted r → (a b c : ℕ) → letter r a b ≡ letter_l → letter r b c ≡ letter_l → ⊥
no_l_l r ok a b c l k =
    let s = (one_letter r ok a b).L.0 l in
    let t = (one_letter r ok b c).L.0 k in
    omega (arith, s.1, t.0)

-- source 004 (III.10) prints the border of W and D as b + (p/q) × a against jam: times q, and for densities up to jam, that is the test made here
pub printed_border : (r : Road) (a b : ℕ) → b ≤ r.jam → (r.wave * (r.jam - b) < r.free * a) ↔ (r.wave * r.jam < r.wave * b + r.free * a)
printed_border r a b h =
    let split = mul-sub r.wave r.jam b in
    let under = mul-le-mul_left r.wave h in
    (λ w. omega arith, λ w. omega arith)
