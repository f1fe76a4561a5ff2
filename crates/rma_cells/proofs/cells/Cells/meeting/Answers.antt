use Rattle.rma_cells.proofs.CellsLemmas.{met_at}
use Rattle.rma_cells.proofs.cells.Cells.meeting.Goals as goal

pub returns-clause-ids : goal.returns-clause-ids
returns-clause-ids g c =
    let out = c.ascend.new.out.items in
    let met = met_at c.self.inside.map c.self.invariant.0 c.args.runs.now c.look_at.new.out.items (rw c.clear.ensures.items at c.in_ok-look_at.ensures.ids) in
    rw (← c.self.view_is) (λ id. (λ x. (met id).0 ((c.ascend.ensures.same id).0 x), λ x. (c.ascend.ensures.same id).1 ((met id).1 x)))
