use Rattle.std.proofs.Common.{length}
use Rattle.rma_type.proofs.Words.{signature}
use Rattle.rma_type.proofs.FirstLemmas.{IsKept_single}
use Rattle.rma_type.proofs.table.TypeTable.add_basic.Goals as goal

pub put-requires-clause-kept : goal.put-requires-clause-kept
put-requires-clause-kept c = IsKept_single c.args.basic (length c.args.self.now.origins) c.single.result c.single.ensures

pub put-requires-clause-signed : goal.put-requires-clause-signed
unfolding signature
put-requires-clause-signed c = c.in_ok-single.ensures
