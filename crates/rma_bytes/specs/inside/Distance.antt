-- How far bytes may be moved.
use Rattle.std.specs.Prelude.{ℤ, pos, neg_ℤ, ◌≤ℤ◌}
use Rattle.rma_base.specs.Limits.{address_limit}

-- no further than the space of addresses is long
pub record IsFar (bytes : ℤ) : Type 0 where
  pub down : neg_ℤ (pos address_limit) ≤ℤ bytes
  pub up : bytes ≤ℤ pos address_limit
