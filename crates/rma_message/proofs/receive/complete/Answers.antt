use Rattle.rma_message.proofs.ReceiveLemmas.{complete_is_set}
use Rattle.rma_message.proofs.receive.complete.Goals as goal

pub returns : goal.returns
returns c = complete_is_set c.args.index c.args.completion c.args.receives.now.items c.index_mut.result.now c.requires c.index_mut.ensures.value
