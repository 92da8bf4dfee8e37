-- The test of an estimate as the code makes it.
use Rattle.std.proofs.Common.{◌≡◌, true, false, refl, sym}
use lib.Ieee.{Float, nan, inf, fin, eq, ne, is_nan}
use Rattle.floats.proofs.Within.{finite_known}

-- a number is a NaN exactly where it differs from itself
pub nan_differs : (x : Float) → is_nan x ≡ ne x x
unfolding is_nan ne eq
nan_differs nan = refl
nan_differs (inf true) = refl
nan_differs (inf false) = refl
nan_differs (fin s m e) = sym (finite_known s m e)
