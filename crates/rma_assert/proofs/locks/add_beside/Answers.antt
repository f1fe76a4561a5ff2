use Rattle.std.proofs.Common.{sym, arith}
use Rattle.std.proofs.lemmas.Option.{slice_get-get_or}
use Rattle.rma_run.specs.Run.{calls_of}
use Rattle.rma_concurrent.proofs.ListLemmas.{contained, more_none, place_of}
use Rattle.rma_assert.specs.Locks.{IsLockedBeside}
use Rattle.rma_assert.specs.inside.Gathered.{IsAtPlace}
use Rattle.rma_assert.proofs.GatherLemmas.{at_place, up_to_all, up_to_more}
use Rattle.rma_assert.proofs.locks.add_beside.Goals as goal

pub loop-place-init : goal.loop-place-init
loop-place-init g c = λ links are.
    more_none c.args.found.now.items
    (λ x found.
    let at = found.is in
    let below = found.below in
    let range = c.range_of-start.ensures.all found.number at.element at.there (sym at.is.at_once.window) in
    let from = range.0 in
    omega arith)

pub loop-place-preserved : goal.loop-place-preserved
loop-place-preserved g c = λ links are.
    let Is = IsLockedBeside links (calls_of c.args.ranks.now) c.args.own.now in
    let locks = c.args.locks.now in
    let i = c.loop-place.place in
    let old = c.loop-place.found.items in
    let new = c.add_pair.new.found.items in
    let bound = c.range_of-start.ensures.bound in
    let test = c.loop-place-test.true in
    up_to_more (IsAtPlace Is locks) i c.args.found.now.items old new (c.loop-place.invariant links are)
    (at_place Is locks i _ old new (slice_get-get_or locks i _ (omega arith)) (c.in_ok-add_pair.ensures links are))

pub returns : goal.returns
returns g c = λ links are.
    let Is = IsLockedBeside links (calls_of c.args.ranks.now) c.args.own.now in
    let locks = c.args.locks.now in
    let past = c.loop-place-test.false in
    up_to_all (IsAtPlace Is locks) c.loop-place.place c.args.found.now.items c.loop-place.found.items
    (λ x n below found. (found.element, contained locks n found.element found.there, found.is))
    (λ x (other, has, is).
    let place = place_of locks other has in
    let range = c.range_of-start.ensures.all place.0 other place.1 (sym is.at_once.window) in
    let to = range.1 in
    (place.0, omega arith, record { element = other; there = place.1; is = is }))
    (c.loop-place.invariant links are)
