use Rattle.rma_chain.proofs.ChainLemmas.{starts_follow}
use Rattle.rma_chain.proofs.follow.starts_no_later.Goals as goal

pub returns-then-is_called_no_later-clause-starts : goal.returns-then-is_called_no_later-clause-starts
returns-then-is_called_no_later-clause-starts c =
    rw (← c.a.view_is, ← c.b.view_is) (λ test p there.
    starts_follow
    c.a.inside.name.rank
    c.b.inside.name.rank
    c.a.inside.call
    c.b.inside.call
    c.a.inside.opening
    c.b.inside.opening
    ((rw (← c.a.view_is, ← c.b.view_is) at c.is_called_no_later.ensures.0) c.if-is_called_no_later.true).0
    ((rw (← c.a.view_is, ← c.b.view_is) at c.is_called_no_later.ensures.0) c.if-is_called_no_later.true).1
    (c.opens_no_later.ensures.0 test)
    p
    there)
