use Rattle.std.proofs.Common.{◌-◌, ◌≤◌, length, ◌<◌, ℕ, List, Contains, slice_index}
use Rattle.rma_link.specs.declared.links.Links.{Links}
use Rattle.rma_link.specs.Point.{entry}
use Rattle.rma_link.specs.Order.{IsAtOrBefore}
use Rattle.rma_clock.specs.Reached.{IsReached}
use Rattle.rma_history.proofs.passed.first_entered_after.Given as goal

abbrev pub invariant-search : goal.invariant-search
invariant-search g l = record {
  in_order : l.low ≤ l.high;
  in_list : l.high ≤ length l.calls;
  before : (points : List ℕ) (links : Links) → g.C.Clocks.are_of l.clocks points links → IsReached points l.done → ((v : ℕ) → Contains l.calls v → IsReached points (entry l.rank v)) →
      (k : ℕ) → k < l.low → IsAtOrBefore links l.done (entry l.rank (slice_index l.calls k)) → ⊥;
  after : (points : List ℕ) (links : Links) → g.C.Clocks.are_of l.clocks points links → IsReached points l.done → ((v : ℕ) → Contains l.calls v → IsReached points (entry l.rank v)) →
      (k : ℕ) → l.high ≤ k → k < length l.calls → IsAtOrBefore links l.done (entry l.rank (slice_index l.calls k));
}

abbrev pub decreases-search : goal.decreases-search
decreases-search g l = l.high - l.low
