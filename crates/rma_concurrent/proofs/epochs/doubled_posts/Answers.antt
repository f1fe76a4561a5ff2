use Rattle.rma_concurrent.specs.Concurrent.{IsDoubledBy, post_order}
use Rattle.rma_concurrent.proofs.ListLemmas.{all_gathered, IfOk_map}
use Rattle.rma_concurrent.proofs.OrderLemmas.{post_is_order}
use Rattle.rma_concurrent.proofs.epochs.doubled_posts.Goals as goal

pub returns : goal.returns
returns c =
    let lists = c.args.lists.now in
    let more = rw (c.posts.ensures, c.new-found.ensures.items) at c.in_ok-add_posts.ensures in
    IfOk_map c.in_order.result
    (λ out so. all_gathered post_order (IsDoubledBy c.args.windows.now) lists.posts lists.exposures c.args.exposures.now c.add_posts.new.found.items out.items c.requires.permutation more so)
    (c.in_order.ensures post_is_order)
