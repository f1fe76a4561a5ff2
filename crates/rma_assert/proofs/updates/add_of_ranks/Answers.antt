use Rattle.std.proofs.Common.{arith}
use Rattle.rma_accesses.specs.declared.rank.RankAccesses.{RankAccesses}
use Rattle.rma_accesses.specs.inside.Kept.{IsAccessesOf, rank_of}
use Rattle.rma_accesses.proofs.RankLemmas.{all_at}
use Rattle.rma_assert.specs.inside.Gathered.{IsAtPlace}
use Rattle.rma_assert.specs.inside.Updated.{IsOfUpdates}
use Rattle.rma_assert.proofs.GatherLemmas.{at_all, at_place, item_is, up_to_more, up_to_none}
use Rattle.rma_assert.proofs.UpdateLemmas.{all_updates}
use Rattle.rma_assert.proofs.updates.add_of_ranks.Goals as goal

pub loop-own-init : goal.loop-own-init
loop-own-init c = up_to_none (IsAtPlace (λ (own : RankAccesses). IsOfUpdates c.args.ranks.now (rank_of own)) c.args.owns.now) c.args.found.now.items

pub add_of_rank-requires : goal.add_of_rank-requires
add_of_rank-requires c =
    let owns = c.args.owns.now in
    let i = c.loop-own.own-index in
    let own = c.own-item.result in
    all_at (IsAccessesOf c.args.ranks.now) owns i own c.requires.each (item_is owns i own c.loop-own-test.true c.own-item.is)

pub loop-own-preserved : goal.loop-own-preserved
loop-own-preserved c =
    let owns = c.args.owns.now in
    let Is = λ (own : RankAccesses). IsOfUpdates c.args.ranks.now (rank_of own) in
    let i = c.loop-own.own-index in
    let own = c.own-item.result in
    let old = c.loop-own.found.items in
    let new = c.add_of_rank.new.found.items in
    up_to_more (IsAtPlace Is owns) i c.args.found.now.items old new c.loop-own.invariant (at_place Is owns i own old new (item_is owns i own c.loop-own-test.true c.own-item.is) c.in_ok-add_of_rank.ensures)

pub returns : goal.returns
returns c =
    let owns = c.args.owns.now in
    let Is = λ (own : RankAccesses). IsOfUpdates c.args.ranks.now (rank_of own) in
    let past = c.loop-own-test.false in
    let old = c.args.found.now.items in
    let new = c.loop-own.found.items in
    all_updates c.args.ranks.now owns c.requires.owns old new (at_all Is owns c.loop-own.own-index old new (omega arith) c.loop-own.invariant)
