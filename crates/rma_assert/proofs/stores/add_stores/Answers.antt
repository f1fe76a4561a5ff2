use Rattle.std.proofs.Common.{arith}
use Rattle.rma_call.specs.Call.{RankCalls}
use Rattle.rma_assert.specs.inside.Gathered.{IsAtPlace}
use Rattle.rma_assert.specs.inside.Stored.{IsStoredOf}
use Rattle.rma_assert.proofs.GatherLemmas.{at_all, at_place, item_is, up_to_more, up_to_none}
use Rattle.rma_assert.proofs.StoreLemmas.{all_stores}
use Rattle.rma_assert.proofs.stores.add_stores.Goals as goal

pub loop-index-init : goal.loop-index-init
loop-index-init c = up_to_none (IsAtPlace (λ (own : RankCalls). IsStoredOf c.args.windows.now c.args.lists.now c.args.ranks.now own) c.args.ranks.now) c.args.found.now.items

pub loop-index-preserved : goal.loop-index-preserved
loop-index-preserved c =
    let ranks = c.args.ranks.now in
    let Is = λ (own : RankCalls). IsStoredOf c.args.windows.now c.args.lists.now ranks own in
    let i = c.loop-index.index in
    let own = c.index-ranks-index.result in
    let old = c.loop-index.found.items in
    let new = c.add_of_rank.new.found.items in
    up_to_more (IsAtPlace Is ranks) i c.args.found.now.items old new c.loop-index.invariant (at_place Is ranks i own old new (item_is ranks i own c.loop-index-test.true c.index-ranks-index.is) c.in_ok-add_of_rank.ensures)

pub returns : goal.returns
returns c =
    let ranks = c.args.ranks.now in
    let Is = λ (own : RankCalls). IsStoredOf c.args.windows.now c.args.lists.now ranks own in
    let past = c.loop-index-test.false in
    let old = c.args.found.now.items in
    let new = c.loop-index.found.items in
    all_stores c.args.windows.now c.args.lists.now ranks c.requires.run old new (at_all Is ranks c.loop-index.index old new (omega arith) c.loop-index.invariant)
