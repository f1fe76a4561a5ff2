use Rattle.std.proofs.Common.{take}
use Rattle.rma_missing.specs.inside.NameCount.{AreCounts}
use Rattle.rma_missing.proofs.name_count.count_all.Given as goal

-- the numbers of the calls so far
abbrev pub invariant-loop-i : goal.invariant-loop-i
invariant-loop-i l = AreCounts l.kind (take l.i l.calls.calls) l.counts.entries
