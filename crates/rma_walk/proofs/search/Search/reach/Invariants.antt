use Rattle.std.proofs.Common.{◌≡◌}
use Rattle.rma_walk.specs.inside.Search.{IsAhead, work}
use Rattle.rma_walk.proofs.search.Search.reach.Given as goal

abbrev pub invariant-loop-point : goal.invariant-loop-point
invariant-loop-point l = record {
  ahead : IsAhead l.run.lens.now l.run.links.now l.current l.initial.self l.self;
  pending : l.self.pending ≡ l.initial.self.pending;
}

abbrev pub decreases-loop-point : goal.decreases-loop-point
decreases-loop-point l = work l.run.lens.now l.self.front.next.items l.self.free.items
