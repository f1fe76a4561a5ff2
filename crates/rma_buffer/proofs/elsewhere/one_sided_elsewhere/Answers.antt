use Rattle.rma_buffer.proofs.ElsewhereLemmas.{placed_elsewhere}
use Rattle.rma_buffer.proofs.elsewhere.one_sided_elsewhere.Goals as goal

pub returns : goal.returns
returns c =
    placed_elsewhere c.placement.result c.args.call.now c.args.from.now c.args.to.now c.in_ok-from.from c.in_ok-to.to c.in_ok-from.ensures c.in_ok-to.ensures c.placement.ensures
