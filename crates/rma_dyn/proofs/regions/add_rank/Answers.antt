use Rattle.std.proofs.Common.{get_or, arith}
use Rattle.std.proofs.lemmas.Option.{slice_get-get_or, slice_get_within}
use Rattle.rma_accesses.specs.inside.Kept.{rank_of}
use Rattle.rma_span.specs.Span.{origin_of, spanned_calls}
use Rattle.rma_concurrent.proofs.ListLemmas.{contained, from_all, from_more}
use Rattle.rma_dyn.specs.inside.Run.{IsAtNumber}
use Rattle.rma_dyn.proofs.GatherLemmas.{more_at, of_run}
use Rattle.rma_dyn.proofs.MadeLemmas.{call_of_listed}
use Rattle.rma_dyn.proofs.regions.add_rank.Goals as goal

pub add_some-requires-clause-access : goal.add_some-requires-clause-access
add_some-requires-clause-access g c = of_run c.args.ranks.now (rank_of c.args.own.now) c.access.result c.requires.there (c.access.ensures.of_rank c.args.ranks.now c.requires.accesses)

pub loop-index-preserved : goal.loop-index-preserved
loop-index-preserved g c = λ links are.
    let ranks = c.args.ranks.now in
    let own = origin_of ranks (rank_of c.args.own.now) in
    let numbers = spanned_calls own in
    let windows = c.args.windows.now in
    let list = c.args.known.now.list.items in
    let i = c.loop-index.index in
    let len = c.len-index-end.ensures ranks c.requires.accesses in
    let test = c.loop-index-test.true in
    let number = get_or numbers i 0 in
    let there = slice_get-get_or numbers i 0 (omega arith) in
    let call = call_of_listed own number (contained numbers i number there) in
    let is = c.access.ensures.is ranks number call.0 c.requires.accesses there call.1 in
    from_more (IsAtNumber links windows list own) numbers 0 i number c.args.found.now.items c.loop-index.found.items c.add_some.new.found.items (omega arith) there (c.loop-index.invariant links are)
    (more_at links windows list own number call.0 call.1 c.access.result c.loop-index.found.items c.add_some.new.found.items is (c.in_ok-add_some.ensures links are))

pub returns : goal.returns
returns g c = λ links are.
    let ranks = c.args.ranks.now in
    let own = origin_of ranks (rank_of c.args.own.now) in
    let numbers = spanned_calls own in
    let len = c.len-index-end.ensures ranks c.requires.accesses in
    let end = c.loop-index-test.false in
    from_all (IsAtNumber links c.args.windows.now c.args.known.now.list.items own) numbers 0 c.loop-index.index c.args.found.now.items c.loop-index.found.items
    (λ x k number at is. let within = slice_get_within numbers k number at in (omega arith, omega arith)) (c.loop-index.invariant links are)
