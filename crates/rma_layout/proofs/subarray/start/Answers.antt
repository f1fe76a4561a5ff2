use Rattle.std.proofs.Common.{◌≡◌, ◌*ℤ◌, length, ap, sym, ◌∙◌, arith, to_z, of_z}
use Rattle.std.specs.Int.{w32}
use Rattle.rma_typemap.specs.Constructors.{slowest_first}
use Rattle.rma_layout.proofs.Words.{ints, start_of_part}
use Rattle.rma_layout.proofs.SubarrayLemmas.{first_stride, next_stride, next_start, none_faster, length_slowest}
use Rattle.rma_layout.proofs.subarray.start.Goals as goal

pub each-init : goal.each-init
each-init c =
    let ds = slowest_first c.args.order c.args.dimensions.now in
    let n = length c.args.dimensions.now in
    let long = length_slowest c.args.order c.args.dimensions.now in
    record {
      stride = first_stride ds n c.args.extent long;
      start = c.new-start.ensures ∙ ap (start_of_part c.args.extent) (sym (none_faster ds n long));
    }

pub each-preserved : goal.each-preserved
each-preserved c =
    let ds = slowest_first c.args.order c.args.dimensions.now in
    let n = length c.args.dimensions.now in
    let d = c.nth_fastest-dimension.result in
    let long = length_slowest c.args.order c.args.dimensions.now in
    let size : to_z w32 (of_z w32 d.size) ≡ d.size = omega (arith, ints) in
    let starts : to_z w32 (of_z w32 d.start) ≡ d.start = omega (arith, ints) in
    record {
      stride = next_stride ds n c.each.i d c.args.extent c.each.stride long (omega (arith, c.each-test.true)) c.nth_fastest-dimension.ensures c.each.invariant.stride c.in_ok-stride.stride (c.in_ok-stride.ensures.ok ∙ ap (λ n. n *ℤ c.each.stride) size);
      start = next_start ds n c.each.i d c.args.extent c.each.stride long (omega (arith, c.each-test.true)) c.nth_fastest-dimension.ensures c.each.invariant.stride
          c.each.start c.in_ok-start.start c.in_ok-times.field-0 c.each.invariant.start (c.in_ok-times.ensures.ok ∙ ap (λ n. n *ℤ c.each.stride) starts) c.in_ok-start.ensures.ok;
    }
