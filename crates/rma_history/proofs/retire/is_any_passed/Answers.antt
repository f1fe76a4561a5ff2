use Rattle.std.proofs.Common.{Contains, subst}
use Rattle.rma_chain.proofs.PlaceLemmas.{read}
use Rattle.rma_history.proofs.KeptLemmas.{of_chain}
use Rattle.rma_history.proofs.retire.is_any_passed.Goals as goal

pub count_passed-requires-clause-chain : goal.count_passed-requires-clause-chain
count_passed-requires-clause-chain g c = rw c.accesses-chain.ensures.value c.accesses-chain.ensures.chain

pub count_passed-requires-clause-clocks : goal.count_passed-requires-clause-clocks
count_passed-requires-clause-clocks g c =
    let some = c.requires in
    let chain = c.index-chains-index.result in
    let at = read c.args.chains.now c.samples.index chain c.samples-test.true c.index-chains-index.is in
    (some.0, some.1, some.2, λ a there. some.3 a (of_chain c.args.chains.now c.samples.index chain a at (subst (λ l. Contains l a) c.accesses-chain.ensures.value there)))
