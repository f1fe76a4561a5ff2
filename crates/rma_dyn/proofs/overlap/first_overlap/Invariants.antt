use Rattle.std.proofs.Common.{◌≤◌}
use Rattle.rma_dyn.specs.inside.Overlap.{IsFirst}
use Rattle.rma_dyn.proofs.overlap.first_overlap.Given as goal

-- those from here on are known
abbrev pub invariant-back : goal.invariant-back
invariant-back l = record {
  to : l.behind ≤ l.initial.behind;
  known : IsFirst l.list l.attach l.behind l.first;
}

abbrev pub decreases-back : goal.decreases-back
decreases-back l = l.behind
