use Rattle.std.proofs.Common.{◌≡◌, take}
use Rattle.rma_type.proofs.Words.{table_of_basics}
use Rattle.rma_type.proofs.table.TypeTable.add_basics.Given as goal

abbrev pub invariant-loop-basic : goal.invariant-loop-basic
invariant-loop-basic l = l.self ≡ table_of_basics (take l.basic-index l.basics)
