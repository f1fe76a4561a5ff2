use Rattle.std.proofs.Common.{arith}
use Rattle.std.proofs.lemmas.Int.{ints}
use Rattle.rma_bytes.proofs.WalkLemmas.{sharing_left, sharing_right, kept_length}
use Rattle.rma_bytes.proofs.overlap.shared.Goals as goal

pub walk-preserved-then-end : goal.walk-preserved-then-end
walk-preserved-then-end c = rw c.in_ok-keep.ensures.ok (record {
  sharing = sharing_left _ _ c.walk.runs.items c.walk.i c.walk.j c.overlap.result c.walk-test.true c.if-j-theirs.true c.walk.invariant.sharing
      c.overlap.ensures.bounds c.overlap.ensures.bytes (grind (arith, ints));
  mine_in = omega arith;
  theirs_in = omega arith;
  short = omega (arith, kept_length c.walk.runs.items c.overlap.result);
  room = omega (arith, c.in_ok-keep.ensures.capacity);
})

pub walk-preserved : goal.walk-preserved
walk-preserved c = rw c.in_ok-keep.ensures.ok (record {
  sharing = sharing_right _ _ c.walk.runs.items c.walk.i c.walk.j c.overlap.result c.walk-test.true c.if-j-theirs.true c.walk.invariant.sharing
      c.overlap.ensures.bounds c.overlap.ensures.bytes (grind (arith, ints));
  mine_in = omega arith;
  theirs_in = omega arith;
  short = omega (arith, kept_length c.walk.runs.items c.overlap.result);
  room = omega (arith, c.in_ok-keep.ensures.capacity);
})
