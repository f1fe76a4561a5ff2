use Rattle.std.proofs.Common.{◌≡◌, ◌∙◌, rules}
use Rattle.rma_cells.proofs.CellsLemmas.{absent_at, added_at, same_cells}
use Rattle.rma_cells.proofs.cells.Cells.add.Goals as goal

pub add_runs-requires-clause-absent : goal.add_runs-requires-clause-absent
add_runs-requires-clause-absent c = absent_at c.self.inside.map c.self.invariant.0 c.args.id (rw (← c.self.view_is) at c.requires)

pub returns-clause-stands : goal.returns-clause-stands
returns-clause-stands c =
    let told = c.in_ok-add_runs.ensures in
    rw (← c.self.view_is) (added_at c.self.inside.map c.add_runs.new.map c.self.invariant.0 told.ordered c.args.id c.args.runs.now told.stands)

pub returns-in_err-add_runs-clause-err : goal.returns-in_err-add_runs-clause-err
returns-in_err-add_runs-clause-err c =
    let told = c.in_err-add_runs.ensures in
    let same : c.add_runs.new.map.entries ≡ c.args.self.now = same_cells c.self.inside.map c.add_runs.new.map c.self.invariant.0 c.self.invariant.1 told.ordered told.normal told.err ∙ c.self.view_is in
    search rules
