use Rattle.std.proofs.Common.{arith}
use Rattle.rma_call.specs.Call.{RankCalls}
use Rattle.rma_run.specs.Run.{calls_of}
use Rattle.rma_assert.specs.inside.Gathered.{IsAtPlace}
use Rattle.rma_assert.specs.inside.Started.{IsOfRank}
use Rattle.rma_assert.proofs.GatherLemmas.{at_all, at_place, item_is, up_to_more, up_to_none}
use Rattle.rma_assert.proofs.RunLemmas.{rank_there}
use Rattle.rma_assert.proofs.StartLemmas.{more_of_run}
use Rattle.rma_assert.proofs.starts.add_starts.Goals as goal

pub loop-own-init : goal.loop-own-init
loop-own-init g c = λ links are. up_to_none (IsAtPlace (λ (own : RankCalls). IsOfRank links (calls_of c.args.ranks.now) own.rank) c.args.ranks.now) c.args.found.now.items

pub add_of_rank-requires-clause-own : goal.add_of_rank-requires-clause-own
add_of_rank-requires-clause-own g c =
    let ranks = c.args.ranks.now in
    let i = c.loop-own.own-index in
    let own = c.own-item.result in
    rank_there ranks i own c.requires.run (item_is ranks i own c.loop-own-test.true c.own-item.is)

pub loop-own-preserved : goal.loop-own-preserved
loop-own-preserved g c = λ links are.
    let ranks = c.args.ranks.now in
    let Is = λ (own : RankCalls). IsOfRank links (calls_of ranks) own.rank in
    let i = c.loop-own.own-index in
    let own = c.own-item.result in
    let old = c.loop-own.found.items in
    let new = c.add_of_rank.new.found.items in
    up_to_more (IsAtPlace Is ranks) i c.args.found.now.items old new (c.loop-own.invariant links are)
    (at_place Is ranks i own old new (item_is ranks i own c.loop-own-test.true c.own-item.is) (c.in_ok-add_of_rank.ensures links are))

pub returns : goal.returns
returns g c = λ links are.
    let ranks = c.args.ranks.now in
    let Is = λ (own : RankCalls). IsOfRank links (calls_of ranks) own.rank in
    let past = c.loop-own-test.false in
    let old = c.args.found.now.items in
    let new = c.loop-own.found.items in
    more_of_run ranks links c.requires.run old new (at_all Is ranks c.loop-own.own-index old new (omega arith) (c.loop-own.invariant links are))
