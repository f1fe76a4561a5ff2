use Rattle.std.proofs.Common.{ℕ, ◌-◌, ◌<◌, ◌≤◌, List, slice_index}
use Rattle.rma_link.specs.declared.links.Links.{Links}
use Rattle.rma_link.specs.Order.{IsAtOrBefore}
use Rattle.rma_clock.specs.Reached.{IsReached}
use Rattle.rma_cut.proofs.search.count_before.Given as goal

abbrev pub invariant-search : goal.invariant-search
invariant-search g l = record {
  in_order : l.low ≤ l.high;
  within : l.high ≤ l.n;
  before : (points : List ℕ) (links : Links) → g.C.Clocks.are_of l.clocks points links → l.n ≤ slice_index points l.rank.0 → IsReached points l.p → (pos : ℕ) → pos < l.low
      → IsAtOrBefore links (record { rank = l.rank; pos = pos }) l.p;
  after : (points : List ℕ) (links : Links) → g.C.Clocks.are_of l.clocks points links → l.n ≤ slice_index points l.rank.0 → IsReached points l.p → (pos : ℕ) → l.high ≤ pos → pos < l.n
      → IsAtOrBefore links (record { rank = l.rank; pos = pos }) l.p → ⊥;
}

abbrev pub decreases-search : goal.decreases-search
decreases-search g l = l.high - l.low
