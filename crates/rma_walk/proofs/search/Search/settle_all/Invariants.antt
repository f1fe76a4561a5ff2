use Rattle.std.proofs.Common.{◌≡◌, is_some}
use Rattle.rma_walk.specs.inside.Search.{IsIdle}
use Rattle.rma_walk.proofs.search.Search.settle_all.Given as goal

abbrev pub invariant-loop-rank : goal.invariant-loop-rank
invariant-loop-rank l = record {
  idle : IsIdle l.run.lens.now l.run.links.now l.self l.rank;
  keeps : is_some l.self.front.order ≡ is_some l.initial.self.front.order;
}
