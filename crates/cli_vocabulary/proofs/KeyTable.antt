-- The rows of the code's table are the definition's, one for each key, at its place; past the last there is no key.
use mathlib.Core.Path.{◌≡◌, ◌∙◌, refl, ap, sym}
use mathlib.Core.List.{List, [], ◌∷◌, map}
use Prim.Native.Nat.{ℕ, zero, suc, ◌≤◌, ◌<◌}
use native.Mathlib.Nat.{le_of_suc-le-suc, not-suc-le-zero}
use lib.ListN.{length, get_or}
use Rattle.std.specs.Prelude.{Some, None}
use Rattle.std.specs.List.{slice_get}
use Rattle.std.proofs.lemmas.Option.{slice_get_past}
use Rattle.cli_vocabulary.specs.Ascii.{ascii}
use Rattle.cli_vocabulary.specs.Keys.{key_row, keys, key_count, place}
use Rattle.cli_vocabulary.specs.Codes.{key_at, none, entry_at, entry_of}
use Rattle.cli_vocabulary.specs.declared.keys.Key.{Key}
use Rattle.cli_vocabulary.specs.declared.keys.Key.TheVariants.{Road, Cells, Upstream, Downstream, Pair, Horizon, Word, Mode, Estimates, Bits, Forecast, Settle, Read, Fit, Rows, Candidate, Count, End, Density, Flow, Speed, Station, Readlast, Nearest, Totals, Caps}
use Rattle.cli_vocabulary.specs.declared.keys.Row.{Row}
use Rattle.cli_vocabulary.specs.declared.keys.TheConstants.{TABLE}

pub row_key : (key : Key) → (key_row key).0 ≡ key
unfolding key_row
row_key Road = refl
row_key Cells = refl
row_key Upstream = refl
row_key Downstream = refl
row_key Pair = refl
row_key Horizon = refl
row_key Word = refl
row_key Mode = refl
row_key Estimates = refl
row_key Bits = refl
row_key Forecast = refl
row_key Settle = refl
row_key Read = refl
row_key Fit = refl
row_key Rows = refl
row_key Candidate = refl
row_key Count = refl
row_key End = refl
row_key Density = refl
row_key Flow = refl
row_key Speed = refl
row_key Station = refl
row_key Readlast = refl
row_key Nearest = refl
row_key Totals = refl
row_key Caps = refl

-- a key's row stands at its place
pub row_at : (other : Row) (key : Key) → get_or TABLE (place key) other ≡ key_row key
unfolding key_row ascii
row_at other Road = refl
row_at other Cells = refl
row_at other Upstream = refl
row_at other Downstream = refl
row_at other Pair = refl
row_at other Horizon = refl
row_at other Word = refl
row_at other Mode = refl
row_at other Estimates = refl
row_at other Bits = refl
row_at other Forecast = refl
row_at other Settle = refl
row_at other Read = refl
row_at other Fit = refl
row_at other Rows = refl
row_at other Candidate = refl
row_at other Count = refl
row_at other End = refl
row_at other Density = refl
row_at other Flow = refl
row_at other Speed = refl
row_at other Station = refl
row_at other Readlast = refl
row_at other Nearest = refl
row_at other Totals = refl
row_at other Caps = refl

pub rows : TABLE ≡ map key_row keys
unfolding key_row keys ascii
rows = refl

pub rows_counted : length keys ≡ key_count
unfolding keys
rows_counted = refl

-- the key of a row at a place; whatever a place past the last would read as
key_there : (ks : List Key) (other : Row) (i : ℕ) → i < length ks → Some (get_or (map key_row ks) i other).0 ≡ slice_get ks i
key_there [] other i h = absurd (not-suc-le-zero h)
key_there (k ∷ ks) other zero h = ap Some (row_key k)
key_there (k ∷ ks) other (suc i) h = key_there ks other i (le_of_suc-le-suc h)

pub key_found_at : (other : Row) (code : ℕ) → code < key_count → Some (get_or TABLE code other).0 ≡ key_at code
key_found_at other code h = ap (λ (rs : List Row). Some (get_or rs code other).0) rows ∙ key_there keys other code (rw rows_counted h)

pub no_key_at : (code : ℕ) → key_count ≤ code → None ≡ key_at code
no_key_at code h = sym (slice_get_past keys code (rw rows_counted h))

pub no_key : (code : ℕ) → key_count ≤ code → none ≡ entry_of code
no_key code h = ap entry_at (no_key_at code h)

-- a key's code is its place; what is no key has none of these
pub placed : (key : Key) → key_at (place key) ≡ Some key
unfolding keys
placed Road = refl
placed Cells = refl
placed Upstream = refl
placed Downstream = refl
placed Pair = refl
placed Horizon = refl
placed Word = refl
placed Mode = refl
placed Estimates = refl
placed Bits = refl
placed Forecast = refl
placed Settle = refl
placed Read = refl
placed Fit = refl
placed Rows = refl
placed Candidate = refl
placed Count = refl
placed End = refl
placed Density = refl
placed Flow = refl
placed Speed = refl
placed Station = refl
placed Readlast = refl
placed Nearest = refl
placed Totals = refl
placed Caps = refl

pub unplaced : (key : Key) (code : ℕ) → key_count ≤ code → code ≡ place key → ⊥
unplaced key code h e = let neither : None ≡ Some key = no_key_at (place key) (rw e at h) ∙ placed key in cc
