use Rattle.std.proofs.Common.{◌-◌, ◌≤◌, ◌<◌, ℕ, List}
use Rattle.rma_link.specs.declared.links.Links.{Links}
use Rattle.rma_link.specs.Order.{IsAtOrBefore}
use Rattle.rma_link.specs.Point.{entry, return_of}
use Rattle.rma_dyn.specs.inside.Reached.{IsAskable}
use Rattle.rma_dyn.proofs.reached.left_before.Given as goal

abbrev pub invariant-search : goal.invariant-search
invariant-search g l = record {
  low : l.low ≤ l.high;
  high : l.high ≤ l.count;
  before : (points : List ℕ) (links : Links) → g.C.Clocks.are_of l.clocks points links → IsAskable points l.access l.memory l.count → (call : ℕ) → call < l.low → IsAtOrBefore links (return_of l.memory call) (entry l.access.name.rank l.access.call);
  after : (points : List ℕ) (links : Links) → g.C.Clocks.are_of l.clocks points links → IsAskable points l.access l.memory l.count → (call : ℕ) → l.high ≤ call → call < l.count → ¬ IsAtOrBefore links (return_of l.memory call) (entry l.access.name.rank l.access.call);
}

abbrev pub decreases-search : goal.decreases-search
decreases-search g l = l.high - l.low
