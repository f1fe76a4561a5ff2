use Rattle.std.proofs.Common.{◌≡◌, length}
use Rattle.rma_dyn.specs.inside.Sorted.{Reach}
use Rattle.rma_dyn.proofs.sorted.reaches_of.Given as goal

-- the numbers up to here are there
abbrev pub invariant-loop-i : goal.invariant-loop-i
invariant-loop-i l = record {
  as_many : length l.reaches.items ≡ l.i;
  each : Reach l.list l.reaches.items;
}
