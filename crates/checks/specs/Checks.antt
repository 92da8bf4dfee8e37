-- The checks 5 to 11 and 20 of the refusal table: of lists and values, most of which several calls share. A call's table is a list of such checks, in the call's order; the whole table, by name, is
-- `commission`'s specs/Table.antt.
use Rattle.std.specs.Prelude.{List, [], ◌∷◌, ℕ, ◌+◌}
use Rattle.choice.specs.Choice.{or}
use Rattle.refusal.specs.Table.{Check, check}
use Rattle.road.specs.declared.Road.{Road}
use Rattle.checks.specs.Lists.{bad_cells, bad_horizon, bad_ends, bad_output, bad_caps}
use Rattle.checks.specs.Values.{first_index_above, any_above}

-- the checks "Lists", over the numbers of cells and of steps and the lengths of the lists
abbrev pub cells_check : ℕ → Check
cells_check n = check (bad_cells n) 5 0

abbrev pub horizon_check : ℕ → Check
horizon_check t = check (bad_horizon t) 6 0

abbrev pub ends_check : ℕ → ℕ → ℕ → Check
ends_check t ups downs = check (bad_ends t ups downs) 7 0

-- 8, of a call with one output and of one with two: the expected length before the given one
abbrev pub output_check : ℕ → ℕ → Check
output_check expected given = check (bad_output expected given) 8 0

abbrev pub outputs_check : ℕ → ℕ → ℕ → ℕ → Check
outputs_check expected given expected' given' = check (or (bad_output expected given) (bad_output expected' given')) 8 0

-- 20, over the numbers of cells and of caps: "after 8 and before 9"
abbrev pub caps_check : ℕ → ℕ → Check
caps_check cells caps = check (bad_caps cells caps) 20 0

-- the checks "Values"
abbrev pub cell_check : Road → List ℕ → Check
cell_check r cells = check (any_above r.jam cells) 9 (first_index_above r.jam cells + 1)

abbrev pub up_check : Road → List ℕ → Check
up_check r ups = check (any_above r.jam ups) 10 (first_index_above r.jam ups)

abbrev pub down_check : Road → List ℕ → Check
down_check r downs = check (any_above r.jam downs) 11 (first_index_above r.jam downs)

-- all three, of a call with two end lists, and of one with an end pair, which stands at the first and only t
abbrev pub value_checks : Road → List ℕ → List ℕ → List ℕ → List Check
value_checks r cells ups downs = cell_check r cells ∷ up_check r ups ∷ down_check r downs ∷ []

abbrev pub pair_checks : Road → List ℕ → ℕ → ℕ → List Check
pair_checks r cells up down = value_checks r cells (up ∷ []) (down ∷ [])
