use Rattle.std.proofs.Common.{take}
use Rattle.rma_concurrent.specs.inside.Places.{IsInOrder}
use Rattle.rma_dyn.specs.Fault.{fault_order}
use Rattle.rma_dyn.proofs.order.each_once.Given as goal

-- those before are in order
abbrev pub invariant-loop-fault : goal.invariant-loop-fault
invariant-loop-fault l = IsInOrder fault_order (take l.fault-index l.sorted) l.out.items
