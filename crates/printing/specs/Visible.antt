-- What may be shown of somebody's words.
use Rattle.std.specs.Prelude.{◌≡◌, ℕ, ◌≤◌}

-- no control character of ASCII
pub record Visible (b : ℕ) : Type 0 where
  pub printed : 32 ≤ b
  pub no_delete : b ≡ 127 → ⊥
