use Rattle.std.proofs.Common.{length, take, replicate}
use Rattle.rma_clock.specs.inside.Before.{IsBeforeSome, IsRaised}
use Rattle.rma_clock.proofs.dense.DenseClocks.row_after.Given as goal

abbrev pub invariant-loop-source : goal.invariant-loop-source
invariant-loop-source l = IsRaised (IsBeforeSome l.links (take l.source-index l.sources)) (replicate (length l.self.rows.items) 0) l.row
