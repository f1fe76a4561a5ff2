use Rattle.rma_buffer.proofs.CallLemmas.{call_is}
use Rattle.rma_buffer.proofs.one_sided.one_sided_call.Goals as goal

pub returns-clause-ok : goal.returns-clause-ok
returns-clause-ok c =
    call_is c.args.table.now.origins c.args.line.now c.args.operands.now c.kind_of-kind.result c.in_ok-copy.field-0 c.in_ok-layouts.layouts
    c.in_ok-copy.ensures c.kind_of-kind.ensures c.in_ok-layouts.ensures.ok
