-- The input that a judgement hands on.
use Rattle.std.specs.Prelude.{◌≡◌, List, ℕ}
use Rattle.road.specs.declared.Road.{Road}
use Rattle.forecast.specs.declared.accepted.AcceptedInput.{AcceptedInput}

-- it is of this road, these lists and this horizon
pub record IsInput (i : AcceptedInput) (r : Road) (ks xs us ds : List ℕ) (t : ℕ) : Type 0 where
  pub road : i.road.road ≡ r
  pub caps : i.caps.now ≡ ks
  pub cells : i.cells.now ≡ xs
  pub upstream : i.upstream.now ≡ us
  pub downstream : i.downstream.now ≡ ds
  pub horizon : i.horizon ≡ t
