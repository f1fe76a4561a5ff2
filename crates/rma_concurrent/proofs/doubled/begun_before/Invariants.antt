use Rattle.std.proofs.Common.{◌≡◌, ◌-◌, ◌≤◌, ◌<◌, ℕ, Some, slice_get}
use Rattle.rma_rules.specs.declared.span.Exposure.{Exposure}
use Rattle.rma_concurrent.proofs.doubled.begun_before.Given as goal

abbrev pub invariant-search : goal.invariant-search
invariant-search l = record {
  from : l.first ≤ l.low;
  low : l.low ≤ l.high;
  high : l.high ≤ l.behind;
  after : (k : ℕ) (own : Exposure) → l.high ≤ k → k < l.behind → slice_get l.list k ≡ Some own → l.post.call ≤ own.opener;
}

abbrev pub decreases-search : goal.decreases-search
decreases-search l = l.high - l.low
