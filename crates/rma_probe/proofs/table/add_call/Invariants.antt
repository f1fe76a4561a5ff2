use Rattle.std.proofs.Common.{List}
use Rattle.std.specs.Prelude.{All, Contains}
use Rattle.rma_call.specs.Call.{RankCalls}
use Rattle.rma_span.specs.Span.{accesses}
use Rattle.rma_accesses.specs.inside.Kept.{IsAccessesOf, rank_of}
use Rattle.rma_probe.proofs.table.add_call.Given as goal

-- accesses of the run alone are added
abbrev pub invariant-loop-role : goal.invariant-loop-role
invariant-loop-role l =
    (ranks : List RankCalls) → IsAccessesOf ranks l.own → Contains ranks (rank_of l.own) → All (Contains (accesses ranks)) l.initial.all.items → All (Contains (accesses ranks)) l.all.items
