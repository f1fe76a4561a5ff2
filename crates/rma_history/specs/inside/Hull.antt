-- The addresses from the first byte of an access to its last.
use Rattle.std.specs.Prelude.{ℤ, ◌≤ℤ◌, ◌<ℤ◌}
use Rattle.rma_history.specs.declared.reach.Hull.{Hull}

-- an address is one of them
abbrev pub IsWithin : Hull → ℤ → Type 0
IsWithin hull b = (hull.start ≤ℤ b) × (b <ℤ hull.end)
