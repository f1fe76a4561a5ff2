use Rattle.std.proofs.Common.{◌≡◌, ◌⊎◌, ◌↔◌, ◌+◌, ℕ, length}
use Rattle.std.specs.List.{Contains}
use Rattle.rma_cells.proofs.LookLemmas.{HasId}
use Rattle.rma_cells.proofs.look.look_within.Given as goal

abbrev pub invariant-cells : goal.invariant-cells
invariant-cells g l = record {
  ids : (id : ℕ) → (Contains l.out.items id ⊎ HasId l.cell-iterator id) ↔ (Contains l.initial.out.items id ⊎ HasId l.initial.cell-iterator id);
  steps : l.steps + length l.cell-iterator ≡ l.initial.steps + length l.initial.cell-iterator;
}
