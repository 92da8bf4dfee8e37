-- What the C call of the ranking promises: the number returned, and every pointer's contents, from the definitions of the call below, demand 1 of the number
-- and place (`judged`), and what is promised of a ranking that is written (`ranked`).
use Rattle.std.specs.Prelude.{◌≡◌, List, ℕ, ℤ, length}
use Rattle.refusal.specs.Table.{refused}
use Rattle.road.specs.declared.Road.{Road}
use Rattle.nearest.specs.Nearest.{nearest_refusal, nearest_cells, nearest_changes, NearestJudged, Ranked}

-- welgadou_nearest: the cells' numbers and changes, the most fragile first
pub record NearestRanked (r : Road) (cells : List ℕ) (up down : ℕ) (numbers numbers-next : List ℕ) (changes changes-next : List ℤ) (place number : ℕ) : Type 0 where
  pub returned : number ≡ (nearest_refusal r cells up down (length numbers) (length changes)).number
  pub placed : place ≡ (nearest_refusal r cells up down (length numbers) (length changes)).place
  pub numbers_written : numbers-next ≡ nearest_cells r cells up down numbers changes
  pub changes_written : changes-next ≡ nearest_changes r cells up down numbers changes
  pub judged : NearestJudged r cells up down (length numbers) (length changes) (refused number place)
  pub ranked : number ≡ 0 → Ranked r up down cells numbers-next changes-next
