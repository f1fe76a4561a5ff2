use Rattle.std.proofs.Common.{◌≡◌, ◌-◌, ◌*ℤ◌, drop, length}
use Rattle.rma_typemap.specs.Constructors.{slowest_first, whole}
use Rattle.rma_layout.proofs.Words.{start_of_part}
use Rattle.rma_layout.proofs.subarray.start.Given as goal

abbrev pub invariant-each : goal.invariant-each
invariant-each l = record {
  stride : l.stride ≡ whole (drop (length l.dimensions - l.i) (slowest_first l.fn.order l.dimensions)) *ℤ l.fn.extent;
  start : l.start ≡ start_of_part l.fn.extent (drop (length l.dimensions - l.i) (slowest_first l.fn.order l.dimensions));
}
