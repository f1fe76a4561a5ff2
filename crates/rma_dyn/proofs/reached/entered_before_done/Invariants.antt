use Rattle.std.proofs.Common.{◌-◌, ◌≤◌, ◌<◌, ℕ, List}
use Rattle.rma_link.specs.declared.links.Links.{Links}
use Rattle.rma_link.specs.Point.{entry}
use Rattle.rma_dyn.specs.inside.Reached.{IsAskable, IsDoneAt}
use Rattle.rma_dyn.proofs.reached.entered_before_done.Given as goal

abbrev pub invariant-search : goal.invariant-search
invariant-search g l = record {
  low : l.low ≤ l.high;
  high : l.high ≤ l.count;
  before : (points : List ℕ) (links : Links) → g.C.Clocks.are_of l.clocks points links → IsAskable points l.access l.memory l.count → (call : ℕ) → call < l.low → ¬ IsDoneAt links l.access (entry l.memory call);
  after : (points : List ℕ) (links : Links) → g.C.Clocks.are_of l.clocks points links → IsAskable points l.access l.memory l.count → (call : ℕ) → l.high ≤ call → call < l.count → IsDoneAt links l.access (entry l.memory call);
}

abbrev pub decreases-search : goal.decreases-search
decreases-search g l = l.high - l.low
