-- What the calls of this crate ask and promise.
use Rattle.std.specs.Prelude.{◌≡◌, List, ℕ, ◌+◌, ◌≤◌, ◌<◌, length, get_or}
use Rattle.road.specs.Ceilings.{horizon_ceiling}
use Rattle.road.specs.declared.Road.{Road}
use Rattle.flux.specs.declared.pace.Pace.{Pace}
use Rattle.scheme.specs.Advance.{entering, leaving, stepped}
use Rattle.scheme.specs.Sums.{Below}
use Rattle.scheme.specs.Rounded.{round_run, entered, left}
use Rattle.scheme.specs.ByFaces.{units_over, StepByFaces}
use Rattle.scheme.specs.Settling.{settles, settle_steps, settle_cells}
use Rattle.scheme.specs.declared.settling.Settled.{Settled}
use Rattle.scheme.specs.declared.one_step.Moved.{Moved}
use Rattle.scheme.specs.declared.many_steps.Totals.{Totals}

-- what a step, a test of stillness and a settling run ask: a cap for each face, at least one cell, cells and ends in range
pub record Ready (p : Pace) (caps xs : List ℕ) (up down : ℕ) : Type 0 where
  pub caps_long : length caps ≡ length xs + 1
  pub some : 0 < length xs
  pub below : Below p.road.road.jam xs
  pub up_high : up ≤ p.road.road.jam
  pub down_high : down ≤ p.road.road.jam

-- and a run: so for each pair of its end lists, and past them for ends of 0; the lists are of one length within the ceiling
pub record ReadyToRun (p : Pace) (caps xs ups downs : List ℕ) : Type 0 where
  pub each : (t : ℕ) → Ready p caps xs (get_or ups t 0) (get_or downs t 0)
  pub same : length downs ≡ length ups
  pub short : length ups ≤ horizon_ceiling

-- one step of the flow F (face, upstream density, downstream density) from the list xs has left the list ys, with the units over face 0 and face n. With the flow `moved r caps` it is what document 02, E5, asks, each face under its cap (E7):
-- the step "takes one list, and its contract says that this then holds document 01's step, rounded as E2 says, of what it held". xs is what the list held, ys what it holds then; `stepped` works all faces from xs
pub record Stepped (F : ℕ → ℕ → ℕ → ℕ) (up down : ℕ) (xs ys : List ℕ) (m : Moved) : Type 0 where
  pub cells : ys ≡ stepped 1 F up down xs
  pub entered : m.entered ≡ entering F up down xs
  pub left : m.left ≡ leaving F up down xs

-- the same on a road, told again face by face and without a subtraction that is cut off at 0 (it is so by `step_faces`): at every cell new + out to the right = old + in from
-- the left, both faces worked from the old densities
pub record SteppedByFaces (r : Road) (caps : List ℕ) (up down : ℕ) (xs ys : List ℕ) (m : Moved) : Type 0 where
  pub cells : StepByFaces r caps up down xs ys
  pub entered : m.entered ≡ units_over r caps up down xs 0
  pub left : m.left ≡ units_over r caps up down xs (length xs)

-- a run from the list xs has left the list ys, with the sums over face 0 and face n
pub record Ran (r : Road) (caps ups downs xs ys : List ℕ) (t : Totals) : Type 0 where
  pub cells : ys ≡ round_run r caps ups downs xs
  pub entered : t.entered ≡ entered r caps ups downs xs
  pub left : t.left ≡ left r caps ups downs xs

-- a settling run from the list xs has left the list ys
pub record SettledTo (r : Road) (caps : List ℕ) (up down t : ℕ) (xs ys : List ℕ) (s : Settled) : Type 0 where
  pub cells : ys ≡ settle_cells r caps up down t xs
  pub settled : s.settled ≡ settles r caps up down t xs
  pub steps : s.steps ≡ settle_steps r caps up down t xs
