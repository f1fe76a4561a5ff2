use Rattle.std.proofs.lemmas.Result.{on_ok_weaker}
use Rattle.rma_pairs.specs.Races.{IsFoundBetween}
use Rattle.rma_chain.proofs.ListLemmas.{found_more, found_none}
use Rattle.rma_chain.proofs.between.find_between.Goals as goal

pub returns-in-Some : goal.returns-in-Some
returns-in-Some g c =
    on_ok_weaker
    c.push.result
    (λ is points links are asked race.
    found_more
    (IsFoundBetween links c.args.windows.now c.args.lists.now c.args.a.now c.args.b.now)
    c.args.found.now.items
    c.push.new.found.items
    c.in-Some.race
    is
    (λ one. (rw c.in-Some.is at c.in_ok-race.ensures) points links one are asked.reached asked.reached_back)
    race)
    c.push.ensures

pub returns-in-None : goal.returns-in-None
returns-in-None g c = λ points links are asked race.
    found_none
    (IsFoundBetween links c.args.windows.now c.args.lists.now c.args.a.now c.args.b.now)
    c.args.found.now.items
    (λ one. (rw c.in-None.is at c.in_ok-race.ensures) points links one are asked.reached asked.reached_back)
    race
