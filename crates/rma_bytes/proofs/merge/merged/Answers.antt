use Rattle.std.proofs.Common.{arith}
use Rattle.std.proofs.lemmas.Int.{ints}
use Rattle.rma_bytes.proofs.WalkLemmas.{merging_join, merging_next, merging_end, kept_length}
use Rattle.rma_bytes.proofs.merge.merged.Goals as goal
use Rattle.rma_bytes.proofs.merge.merged.Goals.{then-block-end, else-block-end+in_ok-keep}

pub each-preserved : goal.each-preserved
each-preserved c =
    elim c.if-block-end.branch [
      | then-block-end w ↦ rw (w.runs-is, w.last-is) (record {
        merging = merging_join _ _ _ c.each.block-index w.hull-last.result c.each-test.true c.each.invariant.merging w.hull-last.ensures.start w.hull-last.ensures.bounds w.hull-last.ensures.bytes;
        short = omega arith;
        room = c.each.invariant.room;
      })
      | else-block-end+in_ok-keep w ↦ rw (w.runs-is, w.last-is, w.in_ok-keep.ensures.ok) (record {
        merging = merging_next _ c.each.runs.items c.each.last c.each.block-index c.each-test.true c.each.invariant.merging (c.requires.bounds c.each.block-index _ c.each-test.true) (grind (arith, ints));
        short = omega (arith, kept_length c.each.runs.items c.each.last);
        room = omega (arith, w.in_ok-keep.ensures.capacity);
      })
    ]

pub returns-clause-bytes : goal.returns-clause-bytes
returns-clause-bytes c = rw c.in_ok-keep-2.ensures.ok (merging_end _ _ _ c.each.block-index c.each-test.false c.each.invariant.merging).1

pub returns-clause-canonical : goal.returns-clause-canonical
returns-clause-canonical c = rw c.in_ok-keep-2.ensures.ok (merging_end _ _ _ c.each.block-index c.each-test.false c.each.invariant.merging).0
