-- The thresholds part the letters: the laws of a cell's own density beside one neighbour, from the regions of the letters and the balance.
use mathlib.Core.Path.{◌≡◌, ◌∙◌, sym}
use mathlib.Core.Bool.{Bool, not}
use Prim.Native.Nat.{ℕ, ◌+◌, ◌-◌, ◌*◌, ◌/◌, ◌≤◌, ◌<◌}
use native.Mathlib.Nat.{le_of_lt, le_trans, lt_of_lt_of_le, lt_of_le_of_lt, lt_of_not-le, lt_of_mul-lt-mul_left, mul-le-mul, mul-le-mul_left, mul-lt-mul_of_pos_left}
use native.Mathlib.Decide.{dec_le}
use native.Mathlib.Omega.{arith}
use lib.Dec.{eqb, leb, ltb}
use mir.Syntax.{w32}
use mir.Val.{Fits}
use borrow.Author.Tests.{eq-eqb, ne_eqb, le-leb, lt-leb, lt-ltb, le-ltb}
use Rattle.choice.specs.Choice.{pick}
use Rattle.road.specs.Judgement.{Accepted}
use Rattle.road.specs.declared.Road.{Road}
use Rattle.flux.specs.Face.{sending, receiving, letter_w, letter_l, letter_d, letter}
use Rattle.flux.specs.Thresholds.{left_threshold, right_threshold, Split}
use Rattle.flux.proofs.Rounding.{Quotient, quotient}
use Rattle.flux.proofs.Laws.{sending_free, sending_full, receiving_free, receiving_full}
use Rattle.flux.proofs.Letters.{full_w, free_l, one_letter}

-- whether a threshold parts two densities: one is at most the threshold and the other is above
abbrev pub parted : ℕ → ℕ → ℕ → Bool
parted t x y = pick (leb x t) (ltb t y) (leb y t)

-- a letter that is split by a threshold differs at two densities exactly where the threshold parts them
pub split_parts : {j t : ℕ} {f : ℕ → ℕ} {low high : ℕ} → Split j t f low high → (x y : ℕ) → x ≤ j → y ≤ j → eqb (f x) (f y) ≡ not (parted t x y)
split_parts {j} {t} {f} s x y hx hy = by_sides (dec_le x t) (dec_le y t)
  where
    by_sides : Dec (x ≤ t) → Dec (y ≤ t) → eqb (f x) (f y) ≡ not (parted t x y)
    by_sides (yes p) (yes q) = simp (le-leb _ _ p, le-ltb _ _ q) (eq-eqb (f x) (f y) (s.up_to x p ∙ sym (s.up_to y q)))
    by_sides (yes p) (no n) =
        let q = lt_of_not-le n in
        simp (le-leb _ _ p, lt-ltb _ _ q) (ne_eqb (f x) (f y) (λ e. s.apart (sym (s.up_to x p) ∙ e ∙ s.above y q hy)))
    by_sides (no m) (yes q) =
        let p = lt_of_not-le m in
        simp (lt-leb _ _ p, le-leb _ _ q) (ne_eqb (f x) (f y) (λ e. s.apart (sym (s.up_to y q) ∙ sym e ∙ s.above x p hx)))
    by_sides (no m) (no n) =
        let p = lt_of_not-le m in
        let q = lt_of_not-le n in
        simp (lt-leb _ _ p, lt-leb _ _ q) (eq-eqb (f x) (f y) (s.above x p hx ∙ sym (s.above y q hy)))

module _ (r : Road) (ok : Accepted r) where
  -- no more is sent than a cell sends at critical, and no more than p × a
  sent_capacity : (a : ℕ) → sending r a ≤ r.free * r.critical
  unfolding sending
  sent_capacity a = mul-le-mul_left r.free (omega arith)

  sent_all : (a : ℕ) → sending r a ≤ r.free * a
  unfolding sending
  sent_all a = mul-le-mul_left r.free (omega arith)

  -- likewise what is received
  received_capacity : (b : ℕ) → receiving r b ≤ r.free * r.critical
  unfolding receiving
  received_capacity b = rw ok.balance (mul-le-mul_left r.wave (omega arith))

  received_room : (b : ℕ) → receiving r b ≤ r.wave * (r.jam - b)
  unfolding receiving
  received_room b = mul-le-mul_left r.wave (omega arith)

  -- the room that what is sent needs, in whole units
  module _ (a : ℕ) where
    abbrev needed : ℕ
    needed = (sending r a + (r.wave - 1)) / r.wave

    needed_is : Quotient (sending r a + (r.wave - 1)) r.wave needed
    needed_is = quotient ok.wave_low

    needed_high : needed ≤ r.jam - r.critical
    needed_high =
        let low = needed_is.low in
        let most = sent_capacity a in
        let same = ok.balance in
        let q = ok.wave_low in
        let below : r.wave * needed < r.wave * (r.jam - r.critical + 1) = omega arith in
        let less = lt_of_mul-lt-mul_left r.wave below in
        omega arith

    -- the code's numbers: the sum before the division fits 32 bits, and what is taken from jam is no more than jam
    pub sum_fits : Fits w32 (sending r a + (r.wave - 1))
    sum_fits =
        let product = mul-le-mul (le_trans ok.free_high ok.divisor_high) (le_trans (le_of_lt ok.critical_high) ok.jam_high) in
        record { fits = omega (arith, product, sent_capacity a, ok.wave_high, ok.divisor_high) }

    pub needed_within : needed ≤ r.jam
    needed_within = let h = needed_high in omega arith

    pub left_low : r.critical ≤ left_threshold r a
    unfolding left_threshold
    left_low = let h = needed_high in let c = ok.critical_high in omega arith

    pub left_high : left_threshold r a ≤ r.jam
    unfolding left_threshold
    left_high = omega arith

    -- up to the threshold the cell receives all that is sent, above it does not
    left_receives : (x : ℕ) → x ≤ left_threshold r a → sending r a ≤ r.wave * (r.jam - x)
    unfolding left_threshold
    left_receives x h =
        let fits = needed_high in
        let c = ok.critical_high in
        let enough : r.wave * needed ≤ r.wave * (r.jam - x) = mul-le-mul_left r.wave (omega arith) in
        let high = needed_is.high in
        let q = ok.wave_low in
        omega arith

    left_holds_back : (x : ℕ) → left_threshold r a < x → x ≤ r.jam → r.wave * (r.jam - x) < sending r a
    unfolding left_threshold
    left_holds_back x h g =
        let short : r.wave * (r.jam - x + 1) ≤ r.wave * needed = mul-le-mul_left r.wave (omega arith) in
        let low = needed_is.low in
        let q = ok.wave_low in
        omega arith

    -- the letter of the left face: that of the upstream density alone, and W above the threshold
    pub left_split : Split r.jam (left_threshold r a) (letter r a) (pick (leb a r.critical) letter_d letter_l) letter_w
    left_split = by_density (dec_le a r.critical)
      where
        wave : (x : ℕ) → left_threshold r a < x → x ≤ r.jam → letter r a x ≡ letter_w
        wave x h g = full_w r a x (lt_of_le_of_lt left_low h) (lt_of_lt_of_le (left_holds_back x h g) (sent_all a))

        by_density : Dec (a ≤ r.critical) → Split r.jam (left_threshold r a) (letter r a) (pick (leb a r.critical) letter_d letter_l) letter_w
        by_density (yes h) = rw (le-leb a r.critical h) (record {
          apart = λ e. absurd (omega (arith, e));
          up_to = λ x g. (one_letter r ok a x).D.1 (h, rw (sym (sending_free r h)) (left_receives x g));
          above = wave;
        })
        by_density (no n) =
            let h = lt_of_not-le n in
            rw (lt-leb a r.critical h) (record {
              apart = λ e. absurd (omega (arith, e));
              up_to = λ x g. free_l r a x (free x g (dec_le x r.critical)) h;
              above = wave;
            })
          where
            -- a queue upstream sends as much as a cell at critical receives, so that the threshold is critical
            free : (x : ℕ) → x ≤ left_threshold r a → Dec (x ≤ r.critical) → x ≤ r.critical
            free x g (yes low) = low
            free x g (no high) =
                let top = left_high in
                let sent = rw (sending_full r (le_of_lt (lt_of_not-le n))) at (left_receives x g) in
                let same = ok.balance in
                let less : r.wave * (r.jam - x) < r.wave * (r.jam - r.critical) = mul-lt-mul_of_pos_left (let c = lt_of_not-le high in omega arith) ok.wave_low in
                absurd (omega arith)

  module _ (b : ℕ) where
    right_is : Quotient (receiving r b) r.free (right_threshold r b)
    unfolding right_threshold
    right_is = quotient ok.free_low

    pub right_high : right_threshold r b ≤ r.critical
    right_high =
        let low = right_is.low in
        let most = received_capacity b in
        let p = ok.free_low in
        let below : r.free * right_threshold r b < r.free * (r.critical + 1) = omega arith in
        let less = lt_of_mul-lt-mul_left r.free below in
        omega arith

    -- up to the threshold p × x is received whole, above it is not
    right_sends : (x : ℕ) → x ≤ right_threshold r b → r.free * x ≤ receiving r b
    right_sends x h =
        let less = mul-le-mul_left r.free h in
        let low = right_is.low in
        omega arith

    right_held_back : (x : ℕ) → right_threshold r b < x → receiving r b < r.free * x
    right_held_back x h =
        let more : r.free * (right_threshold r b + 1) ≤ r.free * x = mul-le-mul_left r.free (omega arith) in
        let high = right_is.high in
        omega arith

    -- the letter of the right face: D up to the threshold, and above it that of the downstream density alone
    pub right_split : Split r.jam (right_threshold r b) (λ x. letter r x b) letter_d (pick (leb b r.critical) letter_l letter_w)
    right_split = by_density (dec_le b r.critical)
      where
        free : (x : ℕ) → x ≤ right_threshold r b → letter r x b ≡ letter_d
        free x h = (one_letter r ok x b).D.1 (le_trans h right_high, le_trans (right_sends x h) (received_room b))

        by_density : Dec (b ≤ r.critical) → Split r.jam (right_threshold r b) (λ x. letter r x b) letter_d (pick (leb b r.critical) letter_l letter_w)
        by_density (yes h) = rw (le-leb b r.critical h) (record {
          apart = λ e. absurd (omega (arith, e));
          up_to = free;
          above = λ x g _. free_l r x b h (full x g);
        })
          where
            -- a free cell downstream receives as much as a cell at critical sends, so that the threshold is critical
            full : (x : ℕ) → right_threshold r b < x → r.critical < x
            full x g =
                let sent = rw (receiving_free r h) at (right_held_back x g) in
                let same = ok.balance in
                let more : r.free * r.critical < r.free * x = omega arith in
                lt_of_mul-lt-mul_left r.free more
        by_density (no n) =
            let h = lt_of_not-le n in
            rw (lt-leb b r.critical h) (record {
              apart = λ e. absurd (omega (arith, e));
              up_to = free;
              above = λ x g _. full_w r x b h (rw (receiving_full r (le_of_lt h)) at (right_held_back x g));
            })

  -- so that some density lies above it
  pub right_below_jam : (b : ℕ) → right_threshold r b < r.jam
  right_below_jam b = lt_of_le_of_lt (right_high b) ok.critical_high
