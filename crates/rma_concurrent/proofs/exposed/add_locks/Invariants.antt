use Rattle.std.proofs.Common.{ℕ, List, All}
use Rattle.rma_link.specs.declared.links.Links.{Links}
use Rattle.rma_concurrent.specs.Concurrent.{IsExposedBy, IsExposureAskable, IsLockAskable}
use Rattle.rma_concurrent.specs.inside.Places.{HasMore, IsFrom, IsOf}
use Rattle.rma_concurrent.proofs.exposed.add_locks.Given as goal

-- the lock epochs before are asked
abbrev pub invariant-loop-lock : goal.invariant-loop-lock
invariant-loop-lock g l = (points : List ℕ) (links : Links) → g.C.Clocks.are_of l.clocks points links → All (IsLockAskable points) l.locks → All (IsExposureAskable points) l.list
    → HasMore (IsFrom (λ lock. IsOf (IsExposedBy links l.windows lock) l.list) l.locks 0 l.lock-index) l.initial.found.items l.found.items
