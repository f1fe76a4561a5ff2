use Rattle.std.proofs.Common.{◌≡◌, ◌↔◌, ◌⊎◌, ◌-◌, ◌<◌, length, Some, Contains, slice_get, sym, subst, ◌∙◌, arith}
use Rattle.std.proofs.lemmas.Result.{on_ok_weaker}
use Rattle.std.proofs.lemmas.Option.{slice_get_within}
use Rattle.rma_rules.specs.Access.{Access}
use Rattle.rma_pairs.specs.Races.{IsFoundBetween}
use Rattle.rma_chain.specs.Chain.{IsChain}
use Rattle.rma_chain.proofs.ChainLemmas.{all_follow, follows_self}
use Rattle.rma_chain.proofs.FoundLemmas.{none_if_after, none_if_before}
use Rattle.rma_chain.proofs.PlaceLemmas.{contained, placed}
use Rattle.rma_chain.proofs.WithinLemmas.{found_of_all, found_of_none, none_there}
use Rattle.rma_chain.proofs.chain.Chain.find_unordered.Goals as goal
use Rattle.rma_chain.proofs.chain.Chain.find_unordered.Goals.{then-to-from-via-then-to-from, then-to-from-via-else-to-from+then-not-may_race}

pub may_race-requires-clause-a : goal.may_race-requires-clause-a
may_race-requires-clause-a g c =
    let chain = c.as_slice-chain.result.now in
    let last = c.in-Some.last.now in
    let same : chain ≡ c.args.self.now = c.as_slice-chain.ensures.value ∙ c.self.view_is in
    let has : Contains c.args.self.now last = subst (λ l. Contains l last) same (contained chain (length chain - 1) last (sym c.in-Some.ensures.value)) in
    (c.requires.3 last has).on_a

pub may_race-requires-clause-b : goal.may_race-requires-clause-b
may_race-requires-clause-b g c =
    let chain = c.as_slice-chain.result.now in
    let last = c.in-Some.last.now in
    let same : chain ≡ c.args.self.now = c.as_slice-chain.ensures.value ∙ c.self.view_is in
    let has : Contains c.args.self.now last = subst (λ l. Contains l last) same (contained chain (length chain - 1) last (sym c.in-Some.ensures.value)) in
    (c.requires.3 last has).on_b

pub count_before-from-requires-clause-chain : goal.count_before-from-requires-clause-chain
count_before-from-requires-clause-chain g c = subst IsChain (sym c.as_slice-chain.ensures.value) c.self.invariant

pub count_before-from-requires-clause-clocks : goal.count_before-from-requires-clause-clocks
count_before-from-requires-clause-clocks g c =
    let some = c.requires in
    (some.0, some.1, some.2, λ a there. some.3 a (subst (λ l. Contains l a) (c.as_slice-chain.ensures.value ∙ c.self.view_is) there))

pub first_after-to-requires-clause-chain : goal.first_after-to-requires-clause-chain
first_after-to-requires-clause-chain g c = subst IsChain (sym c.as_slice-chain.ensures.value) c.self.invariant

pub first_after-to-requires-clause-clocks : goal.first_after-to-requires-clause-clocks
first_after-to-requires-clause-clocks g c =
    let some = c.requires in
    (some.0, some.1, some.2, λ a there. some.3 a (subst (λ l. Contains l a) (c.as_slice-chain.ensures.value ∙ c.self.view_is) there))

pub returns-then-from-chain : goal.returns-then-from-chain
returns-then-from-chain g c = λ points links are known race.
    let chain = c.as_slice-chain.result.now in
    let windows = c.args.windows.now in
    let spans = c.args.lists.now in
    let b = c.args.access.now in
    let same : chain ≡ c.args.self.now = c.as_slice-chain.ensures.value ∙ c.self.view_is in
    let asked = λ (a : Access) (there : Contains chain a). known a (subst (λ l. Contains l a) same there) in
    subst
    (λ l. Contains c.args.found.now.items race ↔ (Contains c.args.found.now.items race ⊎ ((a : Access) × Contains l a × IsFoundBetween links windows spans a b race)))
    same
    (found_of_none
    (λ (a : Access). IsFoundBetween links windows spans a b race)
    chain
    (Contains c.args.found.now.items race)
    (λ a has.
    let place = placed chain a has in
    let within : place.0 < length chain = slice_get_within chain place.0 a place.1 in
    let end = c.if-from-chain.true in
    none_if_before links windows spans a b race (c.count_before-from.ensures.before points links are asked place.0 a place.1 (omega arith))))

pub returns-then-to-from : goal.returns-then-to-from
returns-then-to-from g c = λ points links are known race.
    let chain = c.as_slice-chain.result.now in
    let last = c.in-Some.last.now in
    let windows = c.args.windows.now in
    let spans = c.args.lists.now in
    let b = c.args.access.now in
    let same : chain ≡ c.args.self.now = c.as_slice-chain.ensures.value ∙ c.self.view_is in
    let asked = λ (a : Access) (there : Contains chain a). known a (subst (λ l. Contains l a) same there) in
    subst
    (λ l. Contains c.args.found.now.items race ↔ (Contains c.args.found.now.items race ⊎ ((a : Access) × Contains l a × IsFoundBetween links windows spans a b race)))
    same
    (found_of_none
    (λ (a : Access). IsFoundBetween links windows spans a b race)
    chain
    (Contains c.args.found.now.items race)
    (elim c.then-to-from.branch [
      | then-to-from-via-then-to-from w ↦ none_there
          (λ (a : Access). IsFoundBetween links windows spans a b race)
          chain
          c.count_before-from.result
          c.first_after-to.result
          w.if-to-from.true
          (λ k a at less. none_if_before links windows spans a b race (c.count_before-from.ensures.before points links are asked k a at less))
          (λ k a at less. none_if_after links windows spans a b race (c.first_after-to.ensures.after points links are asked k a at less))
      | then-to-from-via-else-to-from+then-not-may_race w ↦ λ a has found.
          let at : slice_get chain (length chain - 1) ≡ Some last = sym c.in-Some.ensures.value in
          let is : IsChain chain = subst IsChain (sym c.as_slice-chain.ensures.value) c.self.invariant in
          let follows = all_follow chain (length chain - 1) last last is at (omega arith) (follows_self last) a has in
          let yes = w.may_race.ensures.never links spans a race follows.deeds found in
          let no = w.if-not-may_race.true in
          absurd cc
    ]))

pub find_within-requires-clause-clocks : goal.find_within-requires-clause-clocks
find_within-requires-clause-clocks g c =
    let some = c.requires in
    (some.0, some.1, some.2, λ a there. some.3 a (subst (λ l. Contains l a) (c.as_slice-chain.ensures.value ∙ c.self.view_is) there))

pub returns : goal.returns
returns g c =
    let chain = c.as_slice-chain.result.now in
    let windows = c.args.windows.now in
    let spans = c.args.lists.now in
    let b = c.args.access.now in
    let same : chain ≡ c.args.self.now = c.as_slice-chain.ensures.value ∙ c.self.view_is in
    on_ok_weaker
    c.find_within.result
    (λ told points links are known race.
    let asked = λ (a : Access) (there : Contains chain a). known a (subst (λ l. Contains l a) same there) in
    subst
    (λ l. Contains c.find_within.new.found.items race ↔ (Contains c.args.found.now.items race ⊎ ((a : Access) × Contains l a × IsFoundBetween links windows spans a b race)))
    same
    (found_of_all
    (λ (a : Access). IsFoundBetween links windows spans a b race)
    chain
    (Contains c.args.found.now.items race)
    (Contains c.find_within.new.found.items race)
    c.count_before-from.result
    c.first_after-to.result
    (λ k a at less. none_if_before links windows spans a b race (c.count_before-from.ensures.before points links are asked k a at less))
    (λ k a at less. none_if_after links windows spans a b race (c.first_after-to.ensures.after points links are asked k a at less))
    (told points links are asked race)))
    c.find_within.ensures
