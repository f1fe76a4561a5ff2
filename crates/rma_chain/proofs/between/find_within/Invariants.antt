use Rattle.std.proofs.Common.{◌≡◌, ◌↔◌, ◌⊎◌, ◌≤◌, ◌<◌, ℕ, List, Some, Contains, slice_get}
use Rattle.rma_link.specs.declared.links.Links.{Links}
use Rattle.rma_rules.specs.Access.{Access}
use Rattle.rma_finding.specs.declared.finding.FoundRace.{FoundRace}
use Rattle.rma_pairs.specs.Races.{IsFoundBetween}
use Rattle.rma_chain.specs.Asked.{MayBeAsked}
use Rattle.rma_chain.proofs.between.find_within.Given as goal

abbrev pub invariant-others : goal.invariant-others
invariant-others g l = record {
  end : (l.index ≤ l.to) ⊎ (l.index ≤ l.from);
  told : (points : List ℕ) (links : Links) → g.C.Clocks.are_of l.clocks points links → ((a : Access) → Contains l.others a → MayBeAsked points l.windows l.lists a l.access) →
      (race : FoundRace) → Contains l.found.items race ↔ (Contains l.initial.found.items race
      ⊎ ((k : ℕ) × (a : Access) × (l.from ≤ k) × (k < l.index) × (slice_get l.others k ≡ Some a) × IsFoundBetween links l.windows l.lists a l.access race));
}
