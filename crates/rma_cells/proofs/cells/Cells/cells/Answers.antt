use Rattle.rma_cells.proofs.CellsLemmas.{are_cells}
use Rattle.rma_cells.proofs.cells.Cells.cells.Goals as goal

pub returns-clause-all : goal.returns-clause-all
returns-clause-all c = rw (← c.self.view_is) (are_cells c.self.inside.map c.self.invariant.0 c.self.invariant.1)
