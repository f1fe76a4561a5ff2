use Rattle.std.proofs.Common.{length, map, ap, ◌∙◌, arith}
use Rattle.std.proofs.lemmas.List.{length-map, take_all}
use Rattle.rma_accesses.specs.Run.{IsEpochsOf, own_of}
use Rattle.rma_accesses.specs.inside.Listing.{with_fences}
use Rattle.rma_accesses.proofs.FenceLemmas.{fences_more}
use Rattle.rma_accesses.proofs.RankLemmas.{all_at, item_is, mapped}
use Rattle.rma_accesses.proofs.fences.list_ranks.Goals as goal

pub loop-own-preserved : goal.loop-own-preserved
loop-own-preserved c =
    let items = c.args.epochs.now.ranks.items in
    let windows = c.args.epochs.now.windows in
    let i = c.loop-own.own-index in
    let own = c.own-item.result in
    let there = item_is items c.as_slice-own-items.result.now i own c.as_slice-own-items.ensures.value c.loop-own-test.true c.own-item.is in
    let is = all_at (IsEpochsOf windows) items i own c.requires.1.each there in
    fences_more c.args.lists.now c.args.phases.now windows (map own_of items) i (own_of own) c.rank.result own.calls.now.calls c.loop-own.lists c.list_fenced.new.spans (mapped own_of items i own there)
    c.rank.ensures is.calls c.loop-own.invariant (c.in_ok-list_fenced.ensures windows is.table)

pub returns : goal.returns
returns c =
    let items = c.args.epochs.now.ranks.items in
    let last = c.loop-own-test.false in
    let same = ap length c.as_slice-own-items.ensures.value in
    c.loop-own.invariant ∙ ap (with_fences c.args.lists.now c.args.phases.now c.args.epochs.now.windows) (take_all c.loop-own.own-index (map own_of items) (omega (arith, last, same, length-map items own_of)))
