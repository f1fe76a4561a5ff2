use Rattle.std.proofs.Common.{take}
use Rattle.rma_missing.specs.inside.ByRank.{AreCountsByRank}
use Rattle.rma_missing.proofs.by_rank.counts_by_rank.Given as goal

-- the numbers of the ranks so far
abbrev pub invariant-loop-rank : goal.invariant-loop-rank
invariant-loop-rank l = AreCountsByRank l.kind (take l.rank-index l.ranks) l.counts_by_rank
