use Rattle.std.proofs.Common.{sym, rules}
use Rattle.std.proofs.lemmas.List.Sorted.{answers_always}
use Rattle.rma_exposure.proofs.ClosedLemmas.{found_by, missed_by}
use Rattle.rma_exposure.proofs.side_epochs.opener_in.Goals as goal

pub returns-in-Ok : goal.returns-in-Ok
returns-in-Ok c = λ up.
    let by_key = c.in-Ok.ensures.position (λ pair. pair.0) (answers_always _ _ _ (λ f a r g called. search rules)) in
    sym (found_by c.args.closed.now up c.args.close c.in-Ok.place c.in-Ok.ensures.bound by_key)

pub returns-in-Err : goal.returns-in-Err
returns-in-Err c = λ up.
    let by_key = c.in-Err.ensures.position (λ pair. pair.0) (answers_always _ _ _ (λ f a r g called. search rules)) in
    sym (missed_by c.args.closed.now up c.args.close c.in-Err.field-0 c.in-Err.ensures.bound by_key)
