use Rattle.std.proofs.Common.{◌≡◌, ◌-◌, ◌*◌, ◌<◌, ◌≤◌, length}
use Rattle.rma_clock.specs.inside.Blocks.{IsGrown, AreBlocks}
use Rattle.rma_clock.proofs.blocks.add_list.Given as goal

abbrev pub invariant-loop-at : goal.invariant-loop-at
invariant-loop-at l = record {
  within : l.at ≤ length l.list;
  here : l.at < length l.list → l.at ≡ length l.starts.items * l.size;
  grown : IsGrown l.initial.table.items l.table.items;
  blocks : AreBlocks l.size l.table.items l.starts.items l.list l.at;
}

abbrev pub decreases-loop-at : goal.decreases-loop-at
decreases-loop-at l = length l.list - l.at
