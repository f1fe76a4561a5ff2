use Rattle.rma_buffer.proofs.ElsewhereLemmas.{accesses_elsewhere}
use Rattle.rma_buffer.proofs.elsewhere.local_elsewhere.Goals as goal

pub returns : goal.returns
returns c =
    accesses_elsewhere c.moved_local.result c.args.call.now c.args.from.now c.args.to.now c.in-Some.from c.in-Some-address_of.to c.in-Some.ensures.is c.in-Some-address_of.ensures.is c.in-Some.ensures.within c.in-Some-address_of.ensures.within c.moved_local.ensures
