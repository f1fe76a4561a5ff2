-- Bits of a mask.
use Rattle.std.specs.Prelude.{◌≡◌, ◌≢◌, ◌↔◌, ℕ, ◌+◌, ◌<◌, ◌≤◌, Bool, true}
use Rattle.std.specs.Int.{bit_at}

-- the bit is set, and none below it
pub record IsLowestBit (mask low : ℕ) : Type 0 where
  pub set : bit_at mask low ≡ 1
  pub below : (k : ℕ) → k < low → bit_at mask k ≡ 0

-- the bit is set, and none above it
pub record IsHighestBit (mask high : ℕ) : Type 0 where
  pub set : bit_at mask high ≡ 1
  pub above : (k : ℕ) → high < k → bit_at mask k ≡ 0

-- the same mask, but with that bit not set
pub record DropsBit (mask bit left : ℕ) : Type 0 where
  pub dropped : bit_at left bit ≡ 0
  pub kept : (k : ℕ) → k ≢ bit → bit_at left k ≡ bit_at mask k

-- the marks are the places from one up to another that pass a test: bit k is for the place `base + k`
abbrev pub Marks : (ℕ → Bool) → ℕ → ℕ → ℕ → ℕ → Type 0
Marks test base mask from to = (k : ℕ) → (bit_at mask k ≡ 1) ↔ ((from ≤ base + k) × (base + k < to) × (test (base + k) ≡ true))
