use Rattle.std.proofs.Common.{sym, subst}
use Rattle.rma_chain.specs.Chain.{AreFollowedBy, IsChain}
use Rattle.rma_chain.proofs.ChainLemmas.{chain_more}
use Rattle.rma_chain.proofs.chain.Chain.push.Goals as goal

pub invariant_of-self : goal.invariant_of-self
invariant_of-self c = subst IsChain (sym c.in_err-push.ensures.items) c.self.invariant

pub invariant_of-self-2 : goal.invariant_of-self-2
invariant_of-self-2 c =
    let follows : AreFollowedBy c.self.inside.accesses.items c.args.access = (rw (← c.self.view_is) at c.requires) in
    subst IsChain (sym c.in_ok-push.ensures.items) (chain_more c.self.inside.accesses.items c.args.access c.self.invariant follows)
