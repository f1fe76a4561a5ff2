use Rattle.std.proofs.Common.{◌≡◌, ◌++◌}
use Rattle.std.specs.List.Sorted.{IsSorted}
use Rattle.std.specs.Vec.Iter.{into_iter_items}
use Rattle.rma_concurrent.specs.inside.Places.{IsInOrder, IsOrder}
use Rattle.rma_concurrent.proofs.order.each_once.Given as goal

-- those before are in order, and the others are left
abbrev pub invariant-loop-report : goal.invariant-loop-report
invariant-loop-report g l = record {
  split : l.fn.sorted.items ≡ l.yielded ++ into_iter_items l.report-iterator;
  in_order : IsOrder g.T.Reported.order → IsSorted g.T.Reported.order l.fn.sorted.items → IsInOrder g.T.Reported.order l.yielded l.out.items;
}
