-- Counts that rise.
use Rattle.std.proofs.Common.{ℕ, ◌<◌, ◌^◌, ◌-◌, inl, inr, arith}
use Rattle.std.proofs.lemmas.Bool.{cases_lt}
use Rattle.rma_io.specs.Count.{Rose, raised}

pub Rose_raised : (n : ℕ) → n < 2 ^ 64 → Rose n (raised n 1)
Rose_raised n small = elim (cases_lt n (2 ^ 64 - 1)) [ inl l ↦ inl (omega arith) | inr g ↦ inr (omega arith) ]
