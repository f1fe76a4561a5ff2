use Rattle.std.proofs.Common.{◌↔◌, ◌<◌, ℕ, Contains}
use Rattle.rma_history.proofs.overlaps.Overlaps.all.Given as goal

abbrev pub invariant-loop-index : goal.invariant-loop-index
invariant-loop-index l = (i : ℕ) → Contains l.all.items i ↔ (i < l.index)
