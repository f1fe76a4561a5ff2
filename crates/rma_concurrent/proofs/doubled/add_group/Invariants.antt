use Rattle.std.proofs.Common.{◌≤◌}
use Rattle.rma_concurrent.specs.Concurrent.{IsDoubledBy}
use Rattle.rma_concurrent.specs.inside.Places.{HasMore, IsFrom}
use Rattle.rma_concurrent.proofs.doubled.add_group.Given as goal

-- the exposures from here on are asked
abbrev pub invariant-back : goal.invariant-back
invariant-back l = record {
  from : l.first ≤ l.last;
  to : l.last ≤ l.initial.last;
  more : HasMore (IsFrom (IsDoubledBy l.windows l.post) l.list l.last l.initial.last) l.initial.found.items l.found.items;
}

abbrev pub decreases-back : goal.decreases-back
decreases-back l = l.last
