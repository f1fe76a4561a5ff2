use Rattle.std.proofs.Common.{◌≤◌}
use Rattle.rma_dyn.specs.inside.Search.{IsCover}
use Rattle.rma_dyn.proofs.search.cover_of.Given as goal

-- those from here on are known
abbrev pub invariant-back : goal.invariant-back
invariant-back l = record {
  to : l.behind ≤ l.initial.behind;
  known : IsCover l.list l.access l.bound l.freed l.behind l.cover;
}

abbrev pub decreases-back : goal.decreases-back
decreases-back l = l.behind
