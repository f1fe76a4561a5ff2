use Rattle.std.proofs.Common.{length, map, sym, ap, subst, arith}
use Rattle.rma_run.specs.Run.{IsRun}
use Rattle.rma_accesses.specs.Run.{own_of}
use Rattle.rma_accesses.proofs.ListingLemmas.{all_listed, first_more}
use Rattle.rma_accesses.proofs.RankLemmas.{item_is, mapped}
use Rattle.std.proofs.lemmas.List.{length-map}
use Rattle.rma_accesses.proofs.lists.posted_lists.Goals as goal

pub list_rank-requires-clause-few : goal.list_rank-requires-clause-few
list_rank-requires-clause-few c =
    let items = c.args.epochs.now.ranks.items in
    let i = c.loop-own.own-index in
    let there = item_is items c.as_slice-own-items.result.now i c.own-item.result c.as_slice-own-items.ensures.value c.loop-own-test.true c.own-item.is in
    let run = subst IsRun (sym c.requires.2.owns) c.requires.1 in
    run.few i (own_of c.own-item.result) (mapped own_of items i c.own-item.result there)

pub list_rank-requires-clause-none : goal.list_rank-requires-clause-none
list_rank-requires-clause-none c =
    let items = c.args.epochs.now.ranks.items in
    let i = c.loop-own.own-index in
    let there = item_is items c.as_slice-own-items.result.now i c.own-item.result c.as_slice-own-items.ensures.value c.loop-own-test.true c.own-item.is in
    c.loop-own.invariant.unlisted i (own_of c.own-item.result) (mapped own_of items i c.own-item.result there) (omega arith)

pub loop-own-preserved : goal.loop-own-preserved
loop-own-preserved c =
    let items = c.args.epochs.now.ranks.items in
    let i = c.loop-own.own-index in
    let there = item_is items c.as_slice-own-items.result.now i c.own-item.result c.as_slice-own-items.ensures.value c.loop-own-test.true c.own-item.is in
    let run = subst IsRun (sym c.requires.2.owns) c.requires.1 in
    first_more c.args.epochs.now.windows (map own_of items) i (own_of c.own-item.result) c.loop-own.spans c.list_rank.new.spans run.in_order
    (mapped own_of items i c.own-item.result there) c.loop-own.invariant c.in_ok-list_rank.ensures.own c.in_ok-list_rank.ensures.more

pub returns : goal.returns
returns c = λ ranks run are.
    let items = c.args.epochs.now.ranks.items in
    all_listed c.args.epochs.now c.loop-own.own-index c.loop-own.spans ranks are (let last = c.loop-own-test.false in let same = ap length c.as_slice-own-items.ensures.value in omega (arith, last, same, length-map items own_of)) c.loop-own.invariant
