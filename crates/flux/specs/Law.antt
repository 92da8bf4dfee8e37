-- The laws of a flux: all that range, balance, monotonicity and contraction need of the flow over a face.
use Rattle.std.specs.Prelude.{◌≡◌, ℕ, ◌+◌, ◌-◌, ◌*◌, ◌≤◌}
use Rattle.road.specs.declared.Road.{Road}

-- What a flow F (upstream density, downstream density) keeps on densities up to jam j with critical density c, where a step multiplies a cell's number by m before the flows
pub record Law (m j c : ℕ) (F : ℕ → ℕ → ℕ) : Type 0 where
  -- more upstream, no less flow; more downstream, no more flow
  pub up : (a a' b : ℕ) → a ≤ a' → F a b ≤ F a' b
  pub down : (a b b' : ℕ) → b ≤ b' → F a b' ≤ F a b
  -- no more than the upstream cell holds, no more than the downstream cell has room for
  pub send : (a b : ℕ) → F a b ≤ m * a
  pub room : (a b : ℕ) → F a b ≤ m * (j - b)
  -- up to critical a cell's own density does not change what it receives, and what it sends grows by at most m a unit
  pub free_in : (l o o' : ℕ) → o ≤ o' → o' ≤ c → F l o ≡ F l o'
  pub free_out : (o o' r : ℕ) → o ≤ o' → o' ≤ c → F o' r ≤ F o r + m * (o' - o)
  -- from critical on it does not change what it sends, and what it receives shrinks by at most m a unit
  pub full_out : (o o' r : ℕ) → c ≤ o → o ≤ o' → F o r ≡ F o' r
  pub full_in : (l o o' : ℕ) → c ≤ o → o ≤ o' → F l o ≤ F l o' + m * (o' - o)

-- all that the laws need of a road: the step-size condition, p ≤ D and q ≤ D. A road at another scale has it, though it is not accepted
pub record Sound (r : Road) : Type 0 where
  pub free_high : r.free ≤ r.divisor
  pub wave_high : r.wave ≤ r.divisor
