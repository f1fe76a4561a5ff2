use Rattle.std.proofs.Common.{◌++◌, ◌∷◌, [], Contains, sym, subst}
use Rattle.rma_concurrent.specs.inside.Places.{IsInOrder}
use Rattle.rma_concurrent.proofs.ListLemmas.{added, skipped}
use Rattle.rma_concurrent.proofs.order.add_new.Goals as goal

pub returns-in_ok-push : goal.returns-in_ok-push
returns-in_ok-push g c = λ seen is so behind.
    let new = rw c.as_slice.ensures.value at (c.if-is_new.ensures is) in
    subst (IsInOrder g.T.Reported.order (seen ++ c.args.report ∷ [])) (sym c.in_ok-push.ensures.items) (added g.T.Reported.order is seen c.args.out.now.items c.args.report so behind new)

pub returns-else-is_new : goal.returns-else-is_new
returns-else-is_new g c = λ seen is so behind.
    skipped g.T.Reported.order is seen c.args.out.now.items c.args.report so (subst (λ xs. Contains xs c.args.report) c.as_slice.ensures.value (c.if-is_new.ensures is))
