use Rattle.std.proofs.Common.{List, All, sym, subst}
use Rattle.std.proofs.lemmas.List.Sorted.{All-permutation}
use Rattle.rma_rules.specs.declared.span.LockSpan.{LockSpan}
use Rattle.rma_concurrent.specs.Concurrent.{IsExposedBy, IsExposureAskable, IsLockAskable, lock_order}
use Rattle.rma_concurrent.proofs.ListLemmas.{all_gathered, IfOk_map}
use Rattle.rma_concurrent.proofs.OrderLemmas.{lock_is_order}
use Rattle.rma_concurrent.proofs.epochs.exposed_locks.Goals as goal

pub add_locks-requires-clause-clocks : goal.add_locks-requires-clause-clocks
add_locks-requires-clause-clocks g c =
    let some = c.requires.clocks in
    let lists = c.args.lists.now in (
      some.0,
      some.1,
      some.2,
      subst (λ (locks : List LockSpan). All (IsLockAskable some.0) locks) (sym c.locks.ensures) some.3.locks,
      All-permutation (IsExposureAskable some.0) lists.exposures c.args.exposures.now c.requires.permutation some.3.exposures,
    )

pub returns : goal.returns
returns g c =
    let lists = c.args.lists.now in
    IfOk_map c.in_order.result
    (λ out so points links are askable.
    let more =
    rw (c.locks.ensures, c.new-found.ensures.items) at (λ (locked : All (IsLockAskable points) c.locks.result.now). c.in_ok-add_locks.ensures points links are locked (All-permutation (IsExposureAskable points) lists.exposures c.args.exposures.now c.requires.permutation askable.exposures)) in
    all_gathered lock_order (IsExposedBy links c.args.windows.now) lists.locks lists.exposures c.args.exposures.now c.add_locks.new.found.items out.items c.requires.permutation (more askable.locks) so)
    (c.in_order.ensures lock_is_order)
