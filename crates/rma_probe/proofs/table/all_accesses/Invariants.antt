use Rattle.std.proofs.Common.{List}
use Rattle.std.specs.Prelude.{All, Contains}
use Rattle.rma_call.specs.Call.{RankCalls}
use Rattle.rma_span.specs.Span.{accesses}
use Rattle.rma_accesses.specs.inside.Kept.{AreAccessesOf}
use Rattle.rma_probe.proofs.table.all_accesses.Given as goal

-- so are those of the ranks before
abbrev pub invariant-loop-own : goal.invariant-loop-own
invariant-loop-own l = (ranks : List RankCalls) → AreAccessesOf ranks l.run → All (Contains (accesses ranks)) l.all.items
