use Rattle.rma_concurrent.proofs.ListLemmas.{IfOk_map, in_order_of}
use Rattle.rma_dyn.specs.Fault.{fault_order}
use Rattle.rma_dyn.proofs.OrderLemmas.{fault_is_order}
use Rattle.rma_dyn.proofs.order.in_order.Goals as goal

pub returns : goal.returns
returns c =
    let once = rw c.as_slice.ensures.value at c.each_once.ensures in
    IfOk_map c.each_once.result (λ out so. in_order_of fault_order fault_is_order c.args.found.items c.sort.new.found.items out.items c.sort.ensures.permutation so) once
