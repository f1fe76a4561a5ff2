use Rattle.std.proofs.Common.{◌≡◌, drop, sym, subst, arith}
use Rattle.std.proofs.lemmas.Grind.{common_steps}
use Rattle.rma_chain.specs.Chain.{IsChain}
use Rattle.rma_chain.proofs.ChainLemmas.{chain_left}
use Rattle.rma_chain.proofs.chain.Chain.let_go.Goals as goal

pub invariant_of-self : goal.invariant_of-self
invariant_of-self c =
    let all = c.self.inside.accesses.items in
    let left : c.truncate.new.self.items ≡ drop c.args.count all = grind (arith, common_steps) in
    subst IsChain (sym left) (chain_left all c.args.count c.self.invariant)
