use Rattle.std.proofs.Common.{take}
use Rattle.rma_member.specs.inside.FirstIndex.{AreFirstIndexes}
use Rattle.rma_member.proofs.first_index.first_indexes.Given as goal

-- the map has the first indexes in what was gone through
abbrev pub invariant-loop-index : goal.invariant-loop-index
invariant-loop-index g l = AreFirstIndexes (take l.index l.list) l.indexes.entries
