use Rattle.std.proofs.Common.{◌≤◌, ℕ, List, All}
use Rattle.rma_link.specs.declared.links.Links.{Links}
use Rattle.rma_concurrent.specs.Concurrent.{IsExposedBy, IsExposureAskable, IsLockAskable}
use Rattle.rma_concurrent.specs.inside.Places.{HasMore, IsFrom}
use Rattle.rma_concurrent.proofs.exposed.add_group.Given as goal

-- the exposures from here on are asked
abbrev pub invariant-back : goal.invariant-back
invariant-back g l = record {
  from : l.first ≤ l.last;
  to : l.last ≤ l.initial.last;
  more : (points : List ℕ) (links : Links) → g.C.Clocks.are_of l.clocks points links → IsLockAskable points l.lock → All (IsExposureAskable points) l.list
      → HasMore (IsFrom (IsExposedBy links l.windows l.lock) l.list l.last l.initial.last) l.initial.found.items l.found.items;
}

abbrev pub decreases-back : goal.decreases-back
decreases-back g l = l.last
