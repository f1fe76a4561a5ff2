use Rattle.rma_concurrent.specs.Concurrent.{IsDoubledBy}
use Rattle.rma_concurrent.specs.inside.Places.{HasMore, IsFrom, IsOf}
use Rattle.rma_concurrent.proofs.doubled.add_posts.Given as goal

-- the posts before are asked
abbrev pub invariant-loop-post : goal.invariant-loop-post
invariant-loop-post l = HasMore (IsFrom (λ post. IsOf (IsDoubledBy l.windows post) l.list) l.posts 0 l.post-index) l.initial.found.items l.found.items
