use Rattle.std.proofs.Common.{◌↔◌, ◌⊎◌, ℕ, List, Contains, take}
use Rattle.rma_link.specs.declared.links.Links.{Links}
use Rattle.rma_rules.specs.Access.{Access}
use Rattle.rma_finding.specs.declared.finding.FoundRace.{FoundRace}
use Rattle.rma_chain.specs.Asked.{MayBeAsked}
use Rattle.rma_history.specs.inside.Overlaps.{IsFoundAt, accesses_of}
use Rattle.rma_history.proofs.search.find_among.Given as goal

abbrev pub invariant-indices : goal.invariant-indices
invariant-indices g l =
    (points : List ℕ) (links : Links) → g.C.Clocks.are_of l.clocks points links → ((a : Access) → Contains (accesses_of l.chains) a → MayBeAsked points l.windows l.lists a l.access) →
    (race : FoundRace) → Contains l.found.items race ↔ (Contains l.initial.found.items race
    ⊎ ((i : ℕ) × Contains (take l.index-index l.indices) i × IsFoundAt links l.windows l.lists l.chains l.access race i))
