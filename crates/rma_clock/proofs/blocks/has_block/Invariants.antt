use Rattle.std.proofs.Common.{◌≡◌, ◌+◌, ◌<◌, ◌≤◌, ℕ, length}
use Rattle.std.specs.Prelude.{slice_index}
use Rattle.rma_clock.proofs.blocks.has_block.Given as goal

abbrev pub invariant-loop-place : goal.invariant-loop-place
invariant-loop-place l = record {
  within : l.start + length l.block ≤ length l.table;
  same : (k : ℕ) → k < l.place → slice_index l.table (l.start + k) ≡ slice_index l.block k;
}
