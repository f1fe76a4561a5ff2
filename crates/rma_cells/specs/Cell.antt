-- What stands on bytes side by side.
use Rattle.std.specs.Prelude.{ℕ, ℤ, List}

-- where these bytes end, as the first number after them, and the ids that stand on each of them
pub record Cell : Type 0 where
  pub end : ℤ
  pub ids : List ℕ
