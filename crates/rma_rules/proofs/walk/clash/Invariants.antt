use Rattle.std.proofs.Common.{◌+◌, ◌-◌, ◌≤◌, length}
use Rattle.rma_rules.proofs.WalkLemmas.{NoClash}
use Rattle.rma_rules.proofs.walk.clash.Given as goal

abbrev pub invariant-walk : goal.invariant-walk
invariant-walk l = record {
  none : NoClash l.size l.a l.b l.i l.j;
  a_in : l.i ≤ length l.a;
  b_in : l.j ≤ length l.b;
}

abbrev pub decreases-walk : goal.decreases-walk
decreases-walk l = (length l.a - l.i) + (length l.b - l.j)
