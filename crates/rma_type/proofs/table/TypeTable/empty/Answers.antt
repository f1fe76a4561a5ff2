use Rattle.rma_type.proofs.FirstLemmas.{table_of_empty}
use Rattle.rma_type.proofs.table.TypeTable.empty.Goals as goal

pub returns : goal.returns
returns c = table_of_empty (record { types = c.new.result; signatures = c.new-2.result; live = c.new-3.result }) c.new.ensures.items c.new-3.ensures.empty
