use Rattle.std.proofs.Common.{◌≡◌, length}
use Rattle.rma_dyn.specs.inside.Overlap.{Last}
use Rattle.rma_dyn.proofs.overlap.lasts_of.Given as goal

-- the numbers up to here are there
abbrev pub invariant-loop-i : goal.invariant-loop-i
invariant-loop-i l = record {
  as_many : length l.lasts.items ≡ l.i;
  each : Last l.list l.lasts.items;
}
