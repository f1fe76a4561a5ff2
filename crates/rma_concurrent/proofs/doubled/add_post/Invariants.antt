use Rattle.std.proofs.Common.{◌-◌, ◌≤◌}
use Rattle.rma_concurrent.specs.Concurrent.{IsDoubledBy}
use Rattle.rma_concurrent.specs.inside.Places.{HasMore, IsFrom}
use Rattle.rma_concurrent.proofs.doubled.add_post.Given as goal

-- the exposures before are asked
abbrev pub invariant-groups : goal.invariant-groups
invariant-groups l = record {
  from : l.start ≤ l.first;
  more : HasMore (IsFrom (IsDoubledBy l.windows l.post) l.list l.start l.first) l.initial.found.items l.found.items;
}

abbrev pub decreases-groups : goal.decreases-groups
decreases-groups l = l.end - l.first
