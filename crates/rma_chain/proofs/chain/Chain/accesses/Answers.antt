use Rattle.rma_chain.proofs.chain.Chain.accesses.Goals as goal

pub returns-clause-chain : goal.returns-clause-chain
returns-clause-chain c = rw (← c.self.view_is) c.self.invariant
