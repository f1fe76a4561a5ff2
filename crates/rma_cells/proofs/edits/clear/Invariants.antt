use borrow.Author.Differences.{up, down}
use Rattle.std.proofs.Common.{◌+◌, ◌-◌}
use Rattle.std.specs.Prelude.{◌≤ℤ◌}
use Rattle.std.specs.BTreeMap.{IsOrdered}
use Rattle.std.specs.Ordering.{int_cmp}
use Rattle.rma_cells.specs.inside.Table.{table, Clears, IsCut}
use Rattle.rma_cells.proofs.edits.clear.Given as goal

abbrev pub invariant-cells : goal.invariant-cells
invariant-cells l = record {
  ordered : IsOrdered int_cmp l.map;
  up : l.start ≤ℤ l.at;
  down : l.at ≤ℤ l.end;
  clears : Clears (table l.initial.map) l.id l.start l.at (table l.map);
  cut : IsCut (table l.map) l.at;
}

abbrev pub decreases-cells : goal.decreases-cells
decreases-cells l = (up l.end + down l.at) - (up l.at + down l.end)
