use Rattle.std.proofs.Common.{arith}
use Rattle.rma_cells.proofs.CellsLemmas.{present_at, removed_at}
use Rattle.rma_cells.proofs.cells.Cells.remove.Goals as goal

pub remove_first-requires-clause-there : goal.remove_first-requires-clause-there
remove_first-requires-clause-there c = present_at c.self.inside.map c.self.invariant.0 c.args.id c.args.runs.now c.len.result (omega arith) (rw (← c.self.view_is) at c.requires)

pub returns : goal.returns
returns c =
    let told = c.remove_first.ensures in
    rw (← c.self.view_is) (removed_at c.self.inside.map c.remove_first.new.map c.self.invariant.0 told.ordered c.args.id told.stands)
