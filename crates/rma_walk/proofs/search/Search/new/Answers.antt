use Rattle.rma_walk.proofs.OutcomeLemmas.{idle_at_start}
use Rattle.rma_walk.proofs.search.Search.new.Goals as goal

pub returns-clause-idle : goal.returns-clause-idle
returns-clause-idle c =
    idle_at_start c.args.run.now.lens.now c.args.run.now.links.now _ c.requires.run (c.in_ok-next.ensures.items_if_clones_equal (λ y same. same)) c.requires.order
    c.in_ok-pending.ensures c.new-2.ensures.items (c.in_ok-free.ensures.items_if_clones_equal (λ y same. same))
