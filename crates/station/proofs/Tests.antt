-- The test of a given number as the code makes it.
use Rattle.std.proofs.Common.{◌≡◌, ◌∙◌, Bool, true, false, refl, sym, ap}
use mathlib.Core.Bool.{true≢false, false≢true}
use Rattle.std.specs.Float.{float_is_finite}
use lib.Ieee.{Float, nan, inf, fin, eq, ne, lt, of_bits}
use Rattle.choice.specs.Choice.{or}
use Rattle.floats.proofs.Within.{finite_known}
use Rattle.station.specs.Station.{zero, bad_number}

or_false : (b : Bool) → b ≡ or b false
or_false true = refl
or_false false = refl

-- −∞ is bad for being below 0, the other two for what they are
pub not_finite_bad : (x : Float) → float_is_finite x ≡ false → bad_number x ≡ true
unfolding float_is_finite bad_number ne eq lt of_bits
not_finite_bad nan e = refl
not_finite_bad (inf true) e = refl
not_finite_bad (inf false) e = refl
not_finite_bad (fin s m e) h = absurd (true≢false h)

pub finite_low : (x : Float) → float_is_finite x ≡ true → lt x zero ≡ bad_number x
unfolding float_is_finite bad_number ne eq lt of_bits
finite_low nan h = absurd (false≢true h)
finite_low (inf s) h = absurd (false≢true h)
finite_low (fin s m e) h = or_false (lt (fin s m e) zero) ∙ ap (λ (b : Bool). or b (or (lt (fin s m e) zero) false)) (sym (finite_known s m e))
