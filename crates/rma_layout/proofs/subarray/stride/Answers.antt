use Rattle.std.proofs.Common.{◌≡◌, ◌*ℤ◌, length, ap, ◌∙◌, arith, to_z, of_z}
use Rattle.std.specs.Int.{w32}
use Rattle.rma_layout.proofs.Words.{ints}
use Rattle.rma_typemap.specs.Constructors.{slowest_first}
use Rattle.rma_layout.proofs.SubarrayLemmas.{first_stride, next_stride, length_slowest}
use Rattle.rma_layout.proofs.subarray.stride.Goals as goal

pub faster-init : goal.faster-init
faster-init c = first_stride (slowest_first c.args.order c.args.dimensions.now) (length c.args.dimensions.now) c.args.extent (length_slowest c.args.order c.args.dimensions.now)

pub faster-preserved : goal.faster-preserved
faster-preserved c =
    let size : to_z w32 (of_z w32 c.nth_fastest-dimension.result.size) ≡ c.nth_fastest-dimension.result.size = omega (arith, ints) in
    next_stride (slowest_first c.args.order c.args.dimensions.now) (length c.args.dimensions.now) c.faster.i c.nth_fastest-dimension.result c.args.extent c.faster.stride
    (length_slowest c.args.order c.args.dimensions.now) (omega (arith, c.faster-test.true, c.requires)) c.nth_fastest-dimension.ensures c.faster.invariant c.in_ok-stride.stride (c.in_ok-stride.ensures.ok ∙ ap (λ n. n *ℤ c.faster.stride) size)
