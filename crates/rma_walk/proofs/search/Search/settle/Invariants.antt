use Rattle.std.proofs.Common.{◌≡◌, is_some}
use Rattle.rma_walk.specs.inside.Search.{IsSearch, work}
use Rattle.rma_walk.proofs.search.Search.settle.Given as goal

abbrev pub invariant-loop-self : goal.invariant-loop-self
invariant-loop-self l = record {
  search : IsSearch l.run.lens.now l.run.links.now l.self l.rank l.current;
  keeps : is_some l.self.front.order ≡ is_some l.initial.self.front.order;
}

abbrev pub decreases-loop-self : goal.decreases-loop-self
decreases-loop-self l = work l.run.lens.now l.self.front.next.items l.self.free.items
