use Rattle.std.proofs.Common.{[], take, sym, subst}
use Rattle.std.proofs.lemmas.Option.{slice_get-get_or}
use Rattle.rma_run.proofs.WalkLemmas.{taken_there}
use Rattle.rma_concurrent.specs.inside.Places.{IsInOrder}
use Rattle.rma_concurrent.proofs.ListLemmas.{none_in_order}
use Rattle.rma_dyn.specs.Fault.{fault_order}
use Rattle.rma_dyn.proofs.OrderLemmas.{fault_is_order, none_behind}
use Rattle.rma_dyn.proofs.order.each_once.Goals as goal

pub loop-fault-init : goal.loop-fault-init
loop-fault-init c = subst (IsInOrder fault_order []) (sym c.new-out.ensures.items) (none_in_order fault_order fault_is_order)

pub loop-fault-preserved : goal.loop-fault-preserved
loop-fault-preserved c =
    let sorted = c.args.sorted.now in
    let i = c.loop-fault.fault-index in
    subst (λ seen. IsInOrder fault_order seen c.add_new.new.out.items) (sym (taken_there sorted i _ (slice_get-get_or sorted i _ c.loop-fault-test.true)))
    (c.in_ok-add_new.ensures (take i sorted) c.loop-fault.invariant (none_behind sorted c.requires i _ (slice_get-get_or sorted i _ c.loop-fault-test.true)))
