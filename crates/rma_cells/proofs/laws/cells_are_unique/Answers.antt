use Rattle.rma_cells.proofs.CellsLemmas.{cells_unique}
use Rattle.rma_cells.proofs.laws.cells_are_unique.Goals as goal

pub returns : goal.returns
returns c = cells_unique
