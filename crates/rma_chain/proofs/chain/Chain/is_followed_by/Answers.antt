use Rattle.std.proofs.Common.{◌≡◌, ◌-◌, length, Some, slice_get, sym, subst, arith}
use Rattle.rma_chain.proofs.ChainLemmas.{all_follow}
use Rattle.rma_chain.proofs.PlaceLemmas.{contained}
use Rattle.rma_chain.proofs.chain.Chain.is_followed_by.Goals as goal

pub returns-in-Some-clause-some : goal.returns-in-Some-clause-some
returns-in-Some-clause-some c = λ _.
    let chain = c.self.inside.accesses.items in
    let last = c.in-Some.last.now in
    let at : slice_get chain (length chain - 1) ≡ Some last = sym (subst (λ l. Some last ≡ slice_get l (length l - 1)) c.deref.ensures.value c.in-Some.ensures.value) in
    (last, rw (← c.self.view_is) (contained chain (length chain - 1) last at))

pub returns-in-Some-clause-follows : goal.returns-in-Some-clause-follows
returns-in-Some-clause-follows c = λ yes.
    let chain = c.self.inside.accesses.items in
    let last = c.in-Some.last.now in
    let at : slice_get chain (length chain - 1) ≡ Some last = sym (subst (λ l. Some last ≡ slice_get l (length l - 1)) c.deref.ensures.value c.in-Some.ensures.value) in
    rw (← c.self.view_is) (all_follow chain (length chain - 1) last c.args.access.now c.self.invariant at (omega arith) (c.is_followed_by.ensures yes))
