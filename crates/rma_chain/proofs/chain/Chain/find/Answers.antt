use Rattle.std.proofs.Common.{Contains}
use Rattle.rma_rules.specs.Access.{Access}
use Rattle.rma_pairs.specs.Races.{IsFoundBetween}
use Rattle.rma_chain.proofs.WithinLemmas.{found_of_none}
use Rattle.rma_chain.proofs.chain.Chain.find.Goals as goal

pub is_told_apart-requires-clause-a : goal.is_told_apart-requires-clause-a
is_told_apart-requires-clause-a g c = λ a there. (c.requires.3 a there).on_a

pub is_told_apart-requires-clause-b : goal.is_told_apart-requires-clause-b
is_told_apart-requires-clause-b g c = λ a there. (c.requires.3 a there).on_b

pub returns-then-is_told_apart : goal.returns-then-is_told_apart
returns-then-is_told_apart g c = λ points links are known race.
    found_of_none
    (λ (a : Access). IsFoundBetween links c.args.windows.now c.args.lists.now a c.args.access.now race)
    c.args.self.now
    (Contains c.args.found.now.items race)
    (λ a has. c.is_told_apart.ensures c.if-is_told_apart.true links c.args.lists.now a race has)
