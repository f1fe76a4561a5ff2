use Rattle.std.proofs.Common.{◌≡◌, take}
use Rattle.std.specs.Prelude.{All}
use Rattle.rma_bytes.specs.Runs.{IsInBounds}
use Rattle.rma_history.proofs.reach.each_of.Given as goal

-- the runs before
abbrev pub invariant-loop-i : goal.invariant-loop-i
invariant-loop-i l = record {
  runs : l.blocks.items ≡ take l.i l.bytes;
  bounds : All IsInBounds l.blocks.items;
}
