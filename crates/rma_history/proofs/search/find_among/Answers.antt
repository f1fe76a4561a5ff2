use Rattle.std.proofs.Common.{◌≡◌, ◌↔◌, ◌⊎◌, ℕ, List, take, get_or, Contains, subst}
use Rattle.std.proofs.lemmas.List.{get_or_default, take_all}
use Rattle.std.proofs.lemmas.List.Elements.{Contains-get_or}
use Rattle.rma_rules.specs.Access.{Access}
use Rattle.rma_pairs.specs.Races.{IsFoundBetween}
use Rattle.rma_chain.proofs.ListLemmas.{found_next}
use Rattle.rma_chain.proofs.PlaceLemmas.{read}
use Rattle.rma_history.specs.inside.Overlaps.{IsFoundAt}
use Rattle.rma_history.proofs.KeptLemmas.{at_index, of_chain}
use Rattle.rma_history.proofs.search.find_among.Goals as goal

pub bounds-chains-index : goal.bounds-chains-index
bounds-chains-index g c = c.requires.bound (get_or c.args.indices.now c.indices.index-index 0) (Contains-get_or c.args.indices.now c.indices.index-index 0 c.indices-test.true)

pub find-requires : goal.find-requires
find-requires g c =
    let chains = c.args.chains.now in
    let index = get_or c.args.indices.now c.indices.index-index 0 in
    let chain = c.index-chains-index.result in
    let within = c.requires.bound index (Contains-get_or c.args.indices.now c.indices.index-index 0 c.indices-test.true) in
    let at = read chains index chain within c.index-chains-index.is in
    let some = c.requires.clocks in
    (some.0, some.1, some.2, λ a there. some.3 a (of_chain chains index chain a at there))

pub indices-preserved : goal.indices-preserved
indices-preserved g c = λ points links are known race.
    let chains = c.args.chains.now in
    let indices = c.args.indices.now in
    let place = c.indices.index-index in
    let index = get_or indices place 0 in
    let chain = c.index-chains-index.result in
    let within = c.requires.bound index (Contains-get_or indices place 0 c.indices-test.true) in
    let at = read chains index chain within c.index-chains-index.is in
    found_next
    (IsFoundAt links c.args.windows.now c.args.lists.now chains c.args.access.now race)
    (Contains c.args.found.now.items race)
    (Contains c.indices.found.items race)
    (Contains c.find.new.found.items race)
    indices
    place
    index
    c.indices-test.true
    (get_or_default indices place 0 index c.indices-test.true)
    (c.indices.invariant points links are known race)
    (at_index
    (λ (a : Access). IsFoundBetween links c.args.windows.now c.args.lists.now a c.args.access.now race)
    chains
    index
    chain
    (Contains c.indices.found.items race)
    (Contains c.find.new.found.items race)
    at
    (c.in_ok-find.ensures points links are (λ a there. known a (of_chain chains index chain a at there)) race))

pub returns : goal.returns
returns g c = λ points links are known race.
    let all : take c.indices.index-index c.args.indices.now ≡ c.args.indices.now = take_all c.indices.index-index c.args.indices.now c.indices-test.false in
    subst
    (λ (l : List ℕ). Contains c.indices.found.items race ↔ (Contains c.args.found.now.items race ⊎ ((i : ℕ) × Contains l i × IsFoundAt links c.args.windows.now c.args.lists.now c.args.chains.now c.args.access.now race i)))
    all
    (c.indices.invariant points links are known race)
