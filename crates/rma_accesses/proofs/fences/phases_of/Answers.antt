use Rattle.std.proofs.Common.{length, map, take, ap, arith}
use Rattle.std.specs.List.{flat_map}
use Rattle.std.proofs.lemmas.List.{length-map}
use Rattle.rma_fenced.specs.Fenced.{accessed_by}
use Rattle.rma_accesses.specs.Run.{IsEpochsOf, own_of}
use Rattle.rma_accesses.proofs.FenceLemmas.{all_phases, one_more}
use Rattle.rma_accesses.proofs.RankLemmas.{all_at, item_is, mapped}
use Rattle.rma_accesses.proofs.fences.phases_of.Goals as goal

pub add-requires-clause-table : goal.add-requires-clause-table
add-requires-clause-table c =
    let items = c.args.epochs.now.ranks.items in
    let there = item_is items c.as_slice-own-items.result.now c.loop-own.own-index c.own-item.result c.as_slice-own-items.ensures.value c.loop-own-test.true c.own-item.is in
    (c.args.epochs.now.windows, (all_at (IsEpochsOf c.args.epochs.now.windows) items c.loop-own.own-index c.own-item.result c.requires.epochs.each there).table)

pub loop-own-preserved : goal.loop-own-preserved
loop-own-preserved c =
    let items = c.args.epochs.now.ranks.items in
    let windows = c.args.epochs.now.windows in
    let ranks = c.args.ranks.now in
    let i = c.loop-own.own-index in
    let own = c.own-item.result in
    let owns = map own_of items in
    let there = item_is items c.as_slice-own-items.result.now i own c.as_slice-own-items.ensures.value c.loop-own-test.true c.own-item.is in
    let is = all_at (IsEpochsOf windows) items i own c.requires.epochs.each there in
    one_more ranks owns windows i (own_of own) c.rank.result own.calls.now.calls c.add.new.self (mapped own_of items i own there) c.rank.ensures is.calls
    (c.in_ok-add.ensures windows (flat_map (accessed_by ranks windows) (take i owns)) is.table c.loop-own.invariant)

pub returns : goal.returns
returns c =
    let items = c.args.epochs.now.ranks.items in
    all_phases c.args.ranks.now (map own_of items) c.args.epochs.now.windows c.loop-own.own-index c.loop-own.phases c.requires.epochs.owns c.requires.epochs.windows
    (let last = c.loop-own-test.false in let same = ap length c.as_slice-own-items.ensures.value in omega (arith, last, same, length-map items own_of)) c.loop-own.invariant
