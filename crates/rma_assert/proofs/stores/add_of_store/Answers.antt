use Rattle.std.proofs.Common.{arith}
use Rattle.std.proofs.lemmas.Option.{slice_get-get_or, slice_get_within}
use Rattle.rma_concurrent.proofs.ListLemmas.{place_of}
use Rattle.rma_assert.specs.inside.Gathered.{IsAtPlace}
use Rattle.rma_assert.specs.inside.Stored.{IsStored}
use Rattle.rma_assert.proofs.GatherLemmas.{at_place, up_to_more}
use Rattle.rma_assert.proofs.StoreLemmas.{all_calls, none_before, none_behind, place_below}
use Rattle.rma_assert.proofs.stores.add_of_store.Goals as goal

pub loop-place-init : goal.loop-place-init
loop-place-init c = record {
  from = omega arith;
  more = λ windows stores meets. none_before windows c.args.given.now c.args.access.now c.requires.published.ascend c.count_before-first.result (rw (← c.access.view_is) c.count_before-first.ensures.before) c.args.found.now.items;
}

pub returns-then-was_done : goal.returns-then-was_done
returns-then-was_done c = λ windows stores meets.
    let given = c.args.given.now in
    let access = c.args.access.now in
    let up = c.requires.published.ascend in
    let place = c.loop-place.place in
    let (k, v, less, there, done) = c.was_done.ensures.done c.if-was_done.true in
    all_calls windows given access up place c.args.found.now.items c.loop-place.found.items (none_behind windows given access up k v there done place less) (c.loop-place.invariant.more windows stores meets)

pub add_call-requires-clause-since : goal.add_call-requires-clause-since
add_call-requires-clause-since c = λ v has less done.
    let published = c.args.given.now.published.now in
    let place = c.loop-place.place in
    let at = place_of published v has in
    let before = place_below published c.requires.published.ascend at.0 place v _ less at.1 (slice_get-get_or published place 0 c.loop-place-test.true) in
    c.was_done.ensures.not_done c.if-was_done.false at.0 v before at.1 done

pub loop-place-preserved : goal.loop-place-preserved
loop-place-preserved c =
    let given = c.args.given.now in
    let published = given.published.now in
    let place = c.loop-place.place in
    let old = c.loop-place.found.items in
    let new = c.add_call.new.found.items in
    let from = c.loop-place.invariant.from in
    record {
      from = omega arith;
      more = λ windows stores meets.
          let Is = IsStored windows given c.args.access.now in
          up_to_more (IsAtPlace Is published) place c.args.found.now.items old new (c.loop-place.invariant.more windows stores meets)
          (at_place Is published place _ old new (slice_get-get_or published place 0 c.loop-place-test.true) (c.in_ok-add_call.ensures windows stores meets));
    }

pub returns : goal.returns
returns c = λ windows stores meets.
    let given = c.args.given.now in
    let access = c.args.access.now in
    let past = c.loop-place-test.false in
    all_calls windows given access c.requires.published.ascend c.loop-place.place c.args.found.now.items c.loop-place.found.items
    (λ j n x le at st. let within = slice_get_within given.published.now j n at in omega arith) (c.loop-place.invariant.more windows stores meets)
