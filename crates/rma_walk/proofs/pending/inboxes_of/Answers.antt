use Rattle.rma_walk.proofs.PendingLemmas.{sources_added}
use Rattle.rma_walk.proofs.pending.inboxes_of.Goals as goal

pub returns : goal.returns
returns c =
    sources_added c.args.lens.now c.args.links.now c.in_ok-inboxes.inboxes.items c.add_edges.new.inboxes.items _
    c.in_ok-inboxes.ensures c.in_ok-add_edges.ensures c.in_ok-add_meets.ensures
