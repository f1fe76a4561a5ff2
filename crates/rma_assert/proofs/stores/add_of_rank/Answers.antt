use Rattle.std.proofs.Common.{arith}
use Rattle.rma_assert.specs.inside.Stored.{IsStoredIn}
use Rattle.rma_assert.proofs.GatherLemmas.{up_to_more, up_to_none}
use Rattle.rma_assert.proofs.StoreLemmas.{more_of_rank}
use Rattle.rma_assert.proofs.stores.add_of_rank.Goals as goal

pub loop-number-init : goal.loop-number-init
loop-number-init c = up_to_none (IsStoredIn c.args.windows.now c.args.lists.now c.args.ranks.now c.args.own.now) c.args.found.now.items

pub loop-number-preserved : goal.loop-number-preserved
loop-number-preserved c =
    up_to_more (IsStoredIn c.args.windows.now c.args.lists.now c.args.ranks.now c.args.own.now) c.loop-number.number c.args.found.now.items c.loop-number.found.items c.add_of_window.new.found.items c.loop-number.invariant
    c.in_ok-add_of_window.ensures

pub returns : goal.returns
returns c =
    let past = c.loop-number-test.false in
    let long = c.len.ensures in
    let count = c.in-Ok.ensures.1 in
    more_of_rank c.args.windows.now c.args.lists.now c.args.ranks.now c.args.own.now c.loop-number.number c.args.found.now.items c.loop-number.found.items (omega arith) c.loop-number.invariant
