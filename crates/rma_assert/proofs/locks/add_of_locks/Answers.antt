use Rattle.std.proofs.Common.{arith}
use Rattle.std.proofs.lemmas.Option.{slice_get-get_or}
use Rattle.rma_run.specs.Run.{calls_of}
use Rattle.rma_assert.specs.inside.Gathered.{IsAtPlace}
use Rattle.rma_assert.proofs.GatherLemmas.{at_all, at_place, up_to_more, up_to_none}
use Rattle.rma_assert.proofs.LockLemmas.{IsOfLock}
use Rattle.rma_assert.proofs.locks.add_of_locks.Goals as goal

pub loop-own-init : goal.loop-own-init
loop-own-init g c = λ links are. up_to_none (IsAtPlace (IsOfLock links (calls_of c.args.ranks.now) c.args.locks.now) c.args.locks.now) c.args.found.now.items

pub loop-own-preserved : goal.loop-own-preserved
loop-own-preserved g c = λ links are.
    let locks = c.args.locks.now in
    let Is = IsOfLock links (calls_of c.args.ranks.now) locks in
    let i = c.loop-own.own-index in
    let old = c.loop-own.found.items in
    let new = c.add_of_lock.new.found.items in
    up_to_more (IsAtPlace Is locks) i c.args.found.now.items old new (c.loop-own.invariant links are)
    (at_place Is locks i _ old new (slice_get-get_or locks i _ c.loop-own-test.true) (c.in_ok-add_of_lock.ensures links are))

pub returns : goal.returns
returns g c = λ links are.
    let past = c.loop-own-test.false in
    at_all (IsOfLock links (calls_of c.args.ranks.now) c.args.locks.now) c.args.locks.now c.loop-own.own-index c.args.found.now.items c.loop-own.found.items (omega arith) (c.loop-own.invariant links are)
