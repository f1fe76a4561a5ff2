use Rattle.std.proofs.Common.{get_or}
use Rattle.std.proofs.lemmas.List.Elements.{Contains-get_or}
use Rattle.rma_chain.proofs.PlaceLemmas.{read}
use Rattle.rma_history.proofs.search.home_of.Goals as goal

pub bounds-chains-index : goal.bounds-chains-index
bounds-chains-index c = c.requires (get_or c.args.indices.now c.indices.index-index 0) (Contains-get_or c.args.indices.now c.indices.index-index 0 c.indices-test.true)

pub returns-then-is_followed_by : goal.returns-then-is_followed_by
returns-then-is_followed_by c =
    let index = get_or c.args.indices.now c.indices.index-index 0 in
    let chain = c.index-chains-index.result in
    let within = c.requires index (Contains-get_or c.args.indices.now c.indices.index-index 0 c.indices-test.true) in
    (chain, read c.args.chains.now index chain within c.index-chains-index.is, record { some = c.is_followed_by.ensures.some c.if-is_followed_by.true; follows = c.is_followed_by.ensures.follows c.if-is_followed_by.true })
