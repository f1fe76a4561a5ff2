use Rattle.std.proofs.Common.{length}
use Rattle.std.specs.Prelude.{All}
use Rattle.rma_walk.specs.Source.{sources_of}
use Rattle.rma_walk.specs.inside.Pending.{IsSource, IsKnown, IsReduced}
use Rattle.rma_walk.proofs.pending.blocker.Given as goal

-- what is gone was passed
abbrev pub invariant-loop-source : goal.invariant-loop-source
invariant-loop-source l = record {
  known : IsKnown l.links l.next l.known.items;
  sources : All (IsSource (length l.next) l.links) (sources_of l.inbox l.call);
  reduced : IsReduced l.links l.next l.initial.inbox l.inbox;
}

abbrev pub decreases-loop-source : goal.decreases-loop-source
decreases-loop-source l = length (sources_of l.inbox l.call)
