use Rattle.std.proofs.Common.{◌≡◌, ◌↔◌, ◌⊎◌, Contains, subst}
use Rattle.rma_rules.specs.Access.{Access}
use Rattle.rma_pairs.specs.Races.{IsFoundBetween}
use Rattle.rma_history.specs.inside.Overlaps.{accesses_of}
use Rattle.rma_history.proofs.KeptLemmas.{found_all}
use Rattle.rma_history.proofs.history.MemoryHistory.take.Goals as goal

pub find_among-requires-clause-bound : goal.find_among-requires-clause-bound
find_among-requires-clause-bound g c = rw (c.deref.ensures.value, c.chains-chains.ensures) c.in_ok-meet.ensures.bound

pub find_among-requires-clause-clocks : goal.find_among-requires-clause-clocks
find_among-requires-clause-clocks g c =
    let some = c.requires in
    (some.0, some.1, some.2, λ a there. rw c.windows.ensures (some.3 a (subst (λ l. Contains l a) c.self.view_is (subst (λ l. Contains (accesses_of l) a) c.chains-chains.ensures there))))

pub home_of-home-requires : goal.home_of-home-requires
home_of-home-requires g c = rw (c.deref-2.ensures.value, c.chains-chains.ensures) c.in_ok-meet.ensures.bound

pub returns-clause-kept : goal.returns-clause-kept
returns-clause-kept g c = λ a. subst (λ l. Contains (accesses_of c.add.new.kept) a ↔ (Contains l a ⊎ (a ≡ c.args.access))) c.self.view_is (c.in_ok-add.ensures a)

pub returns-clause-found : goal.returns-clause-found
returns-clause-found g c = λ points links are known race.
    let kept = c.self.inside.kept in
    let told = (rw (c.windows.ensures, c.chains-chains.ensures, c.deref.ensures.value) at c.in_ok-find_among.ensures) points links are (λ a there. known a (subst (λ l. Contains l a) c.self.view_is there)) race in
    subst
    (λ l. Contains c.find_among.new.found.items race ↔ (Contains c.args.found.now.items race ⊎ ((a : Access) × Contains l a × IsFoundBetween links c.args.windows.now c.args.lists.now a c.args.access race)))
    c.self.view_is
    (found_all
    (λ (a : Access). IsFoundBetween links c.args.windows.now c.args.lists.now a c.args.access race)
    kept
    c.meet.new.met.items
    (Contains c.args.found.now.items race)
    (Contains c.find_among.new.found.items race)
    (λ i chain a at there found. c.in_ok-meet.ensures.found links c.args.lists.now i chain a race at there found)
    told)
