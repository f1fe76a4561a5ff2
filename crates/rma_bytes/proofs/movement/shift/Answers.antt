use Rattle.std.proofs.Common.{arith, refl, w64}
use Rattle.std.proofs.lemmas.Int.{ints, to_z-of_z}
use Rattle.rma_bytes.proofs.IndexLemmas.{moved_in_bounds, moved_more}
use Rattle.rma_bytes.proofs.movement.shift.Goals as goal

pub overflow_add-run : goal.overflow_add-run
overflow_add-run c =
    let fits = moved_in_bounds _ c.args.runs.now c.each.runs c.each.run-index c.each-test.true c.each.invariant c.args.by (to_z-of_z w64 c.args.by c.ranges.by) c.requires in
    omega (arith, ints)

pub each-preserved : goal.each-preserved
each-preserved c =
    let fits = moved_in_bounds _ c.args.runs.now c.each.runs c.each.run-index c.each-test.true c.each.invariant c.args.by (to_z-of_z w64 c.args.by c.ranges.by) c.requires in
    moved_more _ c.args.runs.now c.each.runs c.each.run-index c.each-test.true c.each.invariant _ (omega arith) (omega (arith, ints)) refl
