use Rattle.std.proofs.Common.{arith}
use Rattle.std.proofs.lemmas.Option.{slice_get-get_or, slice_get_within}
use Rattle.rma_concurrent.specs.Concurrent.{IsDoubledBy}
use Rattle.rma_concurrent.specs.inside.Places.{IsOf}
use Rattle.rma_concurrent.proofs.ListLemmas.{from_all, from_more}
use Rattle.rma_concurrent.proofs.doubled.add_posts.Goals as goal

pub loop-post-preserved : goal.loop-post-preserved
loop-post-preserved c =
    let posts = c.args.posts.now in
    let i = c.loop-post.post-index in
    from_more (λ post. IsOf (IsDoubledBy c.args.windows.now post) c.args.list.now) posts 0 i _ c.args.found.now.items c.loop-post.found.items c.add_post.new.found.items (omega arith) (slice_get-get_or posts i _ c.loop-post-test.true)
    c.loop-post.invariant c.in_ok-add_post.ensures

pub returns : goal.returns
returns c =
    let posts = c.args.posts.now in
    let end = c.loop-post-test.false in
    from_all (λ post. IsOf (IsDoubledBy c.args.windows.now post) c.args.list.now) posts 0 c.loop-post.post-index c.args.found.now.items c.loop-post.found.items
    (λ x k post at is. let within = slice_get_within posts k post at in (omega arith, omega arith)) c.loop-post.invariant
