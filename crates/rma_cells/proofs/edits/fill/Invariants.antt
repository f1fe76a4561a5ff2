use borrow.Author.Differences.{up, down}
use Rattle.std.proofs.Common.{◌+◌, ◌-◌, ◌≡◌, ◌⊎◌}
use Rattle.std.specs.BTreeMap.{IsOrdered}
use Rattle.std.specs.Ordering.{int_cmp}
use Rattle.rma_cells.specs.inside.Table.{table, Grows, IsBoundary}
use Rattle.rma_cells.proofs.edits.fill.Given as goal

abbrev pub invariant-cells : goal.invariant-cells
invariant-cells l = record {
  ordered : IsOrdered int_cmp l.map;
  grows : Grows (table l.initial.map) l.id l.start l.at l.end (table l.map);
  edge : (l.start ≡ l.at) ⊎ IsBoundary (table l.map) l.at;
}

abbrev pub decreases-cells : goal.decreases-cells
decreases-cells l = (up l.end + down l.at) - (up l.at + down l.end)
