use Rattle.std.proofs.Common.{◌-◌, ◌≤◌, ℕ, List, All}
use Rattle.rma_link.specs.declared.links.Links.{Links}
use Rattle.rma_concurrent.specs.Concurrent.{IsExposedBy, IsExposureAskable, IsLockAskable}
use Rattle.rma_concurrent.specs.inside.Places.{HasMore, IsFrom}
use Rattle.rma_concurrent.proofs.exposed.add_lock.Given as goal

-- the exposures before are asked
abbrev pub invariant-groups : goal.invariant-groups
invariant-groups g l = record {
  from : l.start ≤ l.first;
  more : (points : List ℕ) (links : Links) → g.C.Clocks.are_of l.clocks points links → IsLockAskable points l.lock → All (IsExposureAskable points) l.list
      → HasMore (IsFrom (IsExposedBy links l.windows l.lock) l.list l.start l.first) l.initial.found.items l.found.items;
}

abbrev pub decreases-groups : goal.decreases-groups
decreases-groups g l = l.end - l.first
