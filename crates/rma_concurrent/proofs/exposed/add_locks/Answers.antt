use Rattle.std.proofs.Common.{arith}
use Rattle.std.proofs.lemmas.Option.{slice_get-get_or, slice_get_within}
use Rattle.rma_concurrent.specs.Concurrent.{IsExposedBy}
use Rattle.rma_concurrent.specs.inside.Places.{IsOf}
use Rattle.rma_concurrent.proofs.ListLemmas.{from_all, from_more}
use Rattle.rma_concurrent.proofs.exposed.add_locks.Goals as goal

pub loop-lock-preserved : goal.loop-lock-preserved
loop-lock-preserved g c = λ points links are locked exposed.
    let locks = c.args.locks.now in
    let i = c.loop-lock.lock-index in
    from_more (λ lock. IsOf (IsExposedBy links c.args.windows.now lock) c.args.list.now) locks 0 i _ c.args.found.now.items c.loop-lock.found.items c.add_lock.new.found.items (omega arith) (slice_get-get_or locks i _ c.loop-lock-test.true)
    (c.loop-lock.invariant points links are locked exposed) (c.in_ok-add_lock.ensures points links are (locked i _ c.loop-lock-test.true) exposed)

pub returns : goal.returns
returns g c = λ points links are locked exposed.
    let locks = c.args.locks.now in
    let end = c.loop-lock-test.false in
    from_all (λ lock. IsOf (IsExposedBy links c.args.windows.now lock) c.args.list.now) locks 0 c.loop-lock.lock-index c.args.found.now.items c.loop-lock.found.items
    (λ x k lock at is. let within = slice_get_within locks k lock at in (omega arith, omega arith)) (c.loop-lock.invariant points links are locked exposed)
