use Rattle.std.proofs.Common.{◌++◌, ◌∷◌, [], Contains, sym, subst}
use Rattle.rma_concurrent.specs.inside.Places.{IsInOrder}
use Rattle.rma_concurrent.proofs.ListLemmas.{added, skipped}
use Rattle.rma_dyn.specs.Fault.{fault_order}
use Rattle.rma_dyn.proofs.OrderLemmas.{fault_is_order}
use Rattle.rma_dyn.proofs.order.add_new.Goals as goal

pub returns-in_ok-push : goal.returns-in_ok-push
returns-in_ok-push c = λ seen so behind.
    let new = rw c.as_slice.ensures.value at (c.if-is_new.ensures) in
    subst (IsInOrder fault_order (seen ++ c.args.fault ∷ [])) (sym c.in_ok-push.ensures.items) (added fault_order fault_is_order seen c.args.out.now.items c.args.fault so behind new)

pub returns-else-is_new : goal.returns-else-is_new
returns-else-is_new c = λ seen so behind.
    skipped fault_order fault_is_order seen c.args.out.now.items c.args.fault so (subst (λ xs. Contains xs c.args.fault) c.as_slice.ensures.value c.if-is_new.ensures)
