use Rattle.std.proofs.Common.{◌≡◌, ◌↔◌, ℕ, take}
use Rattle.std.specs.Prelude.{ℤ}
use Rattle.std.specs.BTreeMap.{IsOrdered}
use Rattle.std.specs.Ordering.{int_cmp}
use Rattle.rma_bytes.specs.Runs.{HasByte}
use Rattle.rma_cells.specs.inside.Table.{table, IsNormal, Stands}
use Rattle.rma_cells.proofs.cells.remove_first.Given as goal

abbrev pub invariant-runs : goal.invariant-runs
invariant-runs l = record {
  ordered : IsOrdered int_cmp l.map;
  normal : IsNormal (table l.map);
  stands : (other : ℕ) (b : ℤ) → Stands (table l.map) other b ↔ (Stands (table l.initial.map) other b × ((other ≡ l.id) → HasByte (take l.i l.runs) b → ⊥));
}
