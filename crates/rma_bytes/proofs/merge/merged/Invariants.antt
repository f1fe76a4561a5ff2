use Rattle.std.proofs.Common.{◌+◌, ◌≤◌, min, length, drop}
use Rattle.rma_bytes.proofs.WalkLemmas.{IsMerging}
use Rattle.rma_bytes.proofs.merge.merged.Given as goal

abbrev pub invariant-each : goal.invariant-each
invariant-each l = record {
  merging : IsMerging l.blocks l.runs.items l.last (drop l.block-index l.blocks);
  short : length l.runs.items + min 1 l.last.len ≤ l.block-index;
  room : 4 ≤ l.runs.capacity;
}
