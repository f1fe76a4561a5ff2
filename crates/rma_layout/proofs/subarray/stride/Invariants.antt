use Rattle.std.proofs.Common.{◌≡◌, ◌-◌, ◌*ℤ◌, drop, length}
use Rattle.rma_typemap.specs.Constructors.{slowest_first, whole}
use Rattle.rma_layout.proofs.subarray.stride.Given as goal

abbrev pub invariant-faster : goal.invariant-faster
invariant-faster l = l.stride ≡ whole (drop (length l.dimensions - l.i) (slowest_first l.fn.order l.dimensions)) *ℤ l.fn.extent
