use Rattle.std.proofs.Common.{◌-◌, ◌≡◌, ◌<◌, ◌≤◌, ℕ, List, Some, Contains, length, slice_get}
use Rattle.rma_link.specs.declared.links.Links.{Links}
use Rattle.rma_rules.specs.Access.{Access}
use Rattle.rma_rules.specs.Before.{Before}
use Rattle.rma_chain.specs.Asked.{MayBeAsked}
use Rattle.rma_chain.proofs.place.search_before.Given as goal

abbrev pub invariant-search : goal.invariant-search
invariant-search g l = record {
  low : l.low ≤ l.high;
  high : l.high ≤ length l.chain;
  before : (points : List ℕ) (links : Links) → g.C.Clocks.are_of l.clocks points links → ((a : Access) → Contains l.chain a → MayBeAsked points l.windows l.lists a l.access)
      → (k : ℕ) (a : Access) → slice_get l.chain k ≡ Some a → k < l.low → Before links l.windows l.lists a l.access;
  not_before : (points : List ℕ) (links : Links) → g.C.Clocks.are_of l.clocks points links → ((a : Access) → Contains l.chain a → MayBeAsked points l.windows l.lists a l.access)
      → (k : ℕ) (a : Access) → slice_get l.chain k ≡ Some a → l.high ≤ k → ¬ Before links l.windows l.lists a l.access;
}

abbrev pub decreases-search : goal.decreases-search
decreases-search g l = l.high - l.low
