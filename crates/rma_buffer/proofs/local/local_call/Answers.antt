use Rattle.rma_buffer.proofs.CallLemmas.{local_is, memory_good, memory_bad}
use Rattle.rma_buffer.proofs.local.local_call.Goals as goal

pub returns-in-Ok-clause-ok : goal.returns-in-Ok-clause-ok
returns-in-Ok-clause-ok c =
    local_is c.args.table.now.origins c.args.access c.args.memory.now c.entries-touched.result c.in-Ok.layout (rw c.types.ensures at c.entries-touched.ensures) c.in-Ok.ensures.placed.0

pub returns-in-Ok-clause-taken : goal.returns-in-Ok-clause-taken
returns-in-Ok-clause-taken c =
    memory_good c.args.table.now.origins c.args.memory.now c.entries-touched.result (rw c.types.ensures at c.entries-touched.ensures) c.in-Ok.ensures.placed.1

pub returns-in-Err-Fault-clause-fault : goal.returns-in-Err-Fault-clause-fault
returns-in-Err-Fault-clause-fault c =
    memory_bad c.args.table.now.origins c.args.memory.now c.entries-touched.result c.in-Err-Fault.fault c.layout_reason.result (rw c.types.ensures at c.entries-touched.ensures) (rw c.in-Err-Fault.field-0-is at c.in-Err-Fault.ensures.fault) (rw c.in-Err-Fault.field-0-is at c.layout_reason.ensures)
