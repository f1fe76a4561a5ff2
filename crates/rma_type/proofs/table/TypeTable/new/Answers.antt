use Rattle.rma_type.proofs.Words.{basics}
use Rattle.rma_type.proofs.table.TypeTable.new.Goals as goal

pub returns-in-Ok : goal.returns-in-Ok
unfolding basics
returns-in-Ok c = c.in-Ok.ensures
