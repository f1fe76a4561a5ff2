use Rattle.std.proofs.Common.{◌-◌, ◌≡◌, ◌<◌, ◌≤◌, ℕ, List, Some, Contains, length, slice_get}
use Rattle.rma_link.specs.declared.links.Links.{Links}
use Rattle.rma_rules.specs.Access.{Access}
use Rattle.rma_history.specs.History.{AreKnown, IsPassed}
use Rattle.rma_history.specs.inside.Passed.{AreBehind}
use Rattle.rma_history.proofs.retire.count_passed.Given as goal

abbrev pub invariant-search : goal.invariant-search
invariant-search g l = record {
  low : l.low ≤ l.high;
  high : l.high ≤ length l.chain;
  passed : (points : List ℕ) (links : Links) → g.C.Clocks.are_of l.clocks points links → ((a : Access) → Contains l.chain a → AreKnown points l.windows l.lists l.next a) → AreBehind links l.next l.initial.horizon
      → (k : ℕ) (a : Access) → slice_get l.chain k ≡ Some a → k < l.low → IsPassed links l.windows l.lists l.next a;
  behind : (points : List ℕ) (links : Links) → g.C.Clocks.are_of l.clocks points links → ((a : Access) → Contains l.chain a → AreKnown points l.windows l.lists l.next a)
      → AreBehind links l.next l.initial.horizon → AreBehind links l.next l.horizon;
}

abbrev pub decreases-search : goal.decreases-search
decreases-search g l = l.high - l.low
