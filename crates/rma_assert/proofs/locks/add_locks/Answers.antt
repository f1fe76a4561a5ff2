use Rattle.std.proofs.Common.{List, All, sym, subst}
use Rattle.std.proofs.lemmas.List.Sorted.{All-permutation}
use Rattle.rma_clock.specs.Reached.{points_of}
use Rattle.rma_rules.specs.declared.span.LockSpan.{LockSpan}
use Rattle.rma_run.specs.Run.{calls_of, lens_of}
use Rattle.rma_concurrent.specs.Concurrent.{IsLockAskable}
use Rattle.rma_concurrent.specs.inside.Places.{HasMore}
use Rattle.rma_assert.specs.Locks.{IsLockBroken}
use Rattle.rma_assert.specs.inside.Held.{WindowsRise}
use Rattle.rma_assert.proofs.GatherLemmas.{on_ok}
use Rattle.rma_assert.proofs.LockLemmas.{more_of_locks}
use Rattle.rma_assert.proofs.locks.add_locks.Goals as goal

pub add_of_locks-requires-clause-askable : goal.add_of_locks-requires-clause-askable
add_of_locks-requires-clause-askable g c =
    subst (All (IsLockAskable (points_of (lens_of c.args.ranks.now)))) (sym c.deref.ensures.value)
    (All-permutation (IsLockAskable (points_of (lens_of c.args.ranks.now))) c.args.locks.now c.in_ok-list.list.items c.in_ok-list.ensures.permutation c.requires.askable)

pub add_of_locks-requires-clause-rise : goal.add_of_locks-requires-clause-rise
add_of_locks-requires-clause-rise g c = subst WindowsRise (sym c.deref.ensures.value) c.in_ok-list.ensures.rise

pub returns : goal.returns
returns g c =
    let calls = calls_of c.args.ranks.now in
    let old = c.args.found.now.items in
    let new = c.add_of_locks.new.found.items in
    on_ok c.add_of_locks.result
    (λ told links are.
    more_of_locks links calls c.args.locks.now c.in_ok-list.list.items c.in_ok-list.ensures.permutation old new (subst (λ (l : List LockSpan). HasMore (IsLockBroken links calls l) old new) c.deref.ensures.value (told links are)))
    c.add_of_locks.ensures
