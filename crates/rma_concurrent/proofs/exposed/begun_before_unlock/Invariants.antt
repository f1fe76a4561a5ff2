use Rattle.std.proofs.Common.{◌≡◌, ◌-◌, ◌≤◌, ◌<◌, ℕ, List, All, Some, slice_get}
use Rattle.rma_link.specs.declared.links.Links.{Links}
use Rattle.rma_rules.specs.declared.span.Exposure.{Exposure}
use Rattle.rma_concurrent.specs.Concurrent.{IsExposureAskable, IsLockAskable, IsUnlockedBefore}
use Rattle.rma_concurrent.proofs.exposed.begun_before_unlock.Given as goal

abbrev pub invariant-search : goal.invariant-search
invariant-search g l = record {
  from : l.first ≤ l.low;
  low : l.low ≤ l.high;
  high : l.high ≤ l.behind;
  after : (points : List ℕ) (links : Links) → g.C.Clocks.are_of l.clocks points links → IsLockAskable points l.lock → All (IsExposureAskable points) l.list
      → (k : ℕ) (own : Exposure) → l.high ≤ k → k < l.behind → slice_get l.list k ≡ Some own → IsUnlockedBefore links l.lock own;
}

abbrev pub decreases-search : goal.decreases-search
decreases-search g l = l.high - l.low
