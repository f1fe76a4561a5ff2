use Rattle.std.proofs.Common.{arith}
use Rattle.rma_accesses.specs.inside.Kept.{rank_of}
use Rattle.rma_assert.specs.inside.Stored.{IsStoredAt}
use Rattle.rma_assert.proofs.GatherLemmas.{up_to_more, up_to_none}
use Rattle.rma_assert.proofs.StoreLemmas.{more_of_calls}
use Rattle.rma_assert.proofs.stores.add_of_calls.Goals as goal

pub loop-index-init : goal.loop-index-init
loop-index-init c = up_to_none (IsStoredAt c.args.windows.now c.args.ranks.now (rank_of c.args.accesses.now) c.args.given.now) c.args.found.now.items

pub loop-index-preserved : goal.loop-index-preserved
loop-index-preserved c =
    up_to_more (IsStoredAt c.args.windows.now c.args.ranks.now (rank_of c.args.accesses.now) c.args.given.now) c.loop-index.index c.args.found.now.items c.loop-index.found.items c.add_of_index.new.found.items
    c.loop-index.invariant c.in_ok-add_of_index.ensures

pub returns : goal.returns
returns c =
    let past = c.loop-index-test.false in
    let long = c.len-index-end.ensures c.args.ranks.now c.requires.accesses in
    more_of_calls c.args.windows.now c.args.ranks.now (rank_of c.args.accesses.now) c.args.given.now c.loop-index.index c.args.found.now.items c.loop-index.found.items (omega (arith, past, long)) c.loop-index.invariant
