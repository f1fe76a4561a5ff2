use Rattle.std.proofs.Common.{◌⊎◌, ◌↔◌, ◌≤◌, ◌+◌, ℕ, take}
use Rattle.std.specs.Prelude.{ℤ}
use Rattle.std.specs.List.{Contains}
use Rattle.rma_bytes.specs.Runs.{HasByte}
use Rattle.rma_cells.specs.Looks.{looks}
use Rattle.rma_cells.specs.inside.Table.{table, Stands}
use Rattle.rma_cells.proofs.cells.look_at.Given as goal

abbrev pub invariant-runs : goal.invariant-runs
invariant-runs g l = record {
  ids : (id : ℕ) → Contains l.out.items id ↔ (Contains l.initial.out.items id ⊎ ((b : ℤ) × Stands (table l.map) id b × HasByte (take l.i l.runs) b));
  steps : l.steps ≤ l.initial.steps + looks l.map.entries (take l.i l.runs);
}
