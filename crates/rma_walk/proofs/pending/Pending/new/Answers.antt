use Rattle.std.proofs.Common.{length, replicate, ap, ◌∙◌}
use Rattle.rma_walk.proofs.PendingLemmas.{pending_at_start}
use Rattle.rma_walk.proofs.pending.Pending.new.Goals as goal

pub returns : goal.returns
returns c =
    pending_at_start c.args.run.now.lens.now c.args.run.now.links.now (replicate (length c.args.run.now.lens.now) 0) _ c.in_ok-inboxes.ensures
    (c.in_ok-known.ensures.items_if_clones_equal (λ y same. same) ∙ ap (λ n. replicate n 0) c.len.ensures)
