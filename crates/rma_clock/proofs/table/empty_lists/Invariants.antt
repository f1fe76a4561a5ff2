use Rattle.std.proofs.Common.{◌≡◌, [], replicate}
use Rattle.rma_clock.proofs.table.empty_lists.Given as goal

abbrev pub invariant-loop-rank : goal.invariant-loop-rank
invariant-loop-rank g l = l.lists.items ≡ replicate l._rank []
