use Rattle.std.proofs.Common.{◌≡◌, ◌*◌, ◌+◌, ◌≤◌, pos, ◌*ℤ◌, arith, rules, to_z, of_z, get_or, length, refl}
use Rattle.rma_typemap.proofs.Words.{w32, w128, to_z-of_z, mul-le-mul_right, extent_of, block_at}
use Rattle.rma_typemap.proofs.FoldLemmas.{indexed_of_more}
use Rattle.rma_typemap.proofs.block_list.indexed_block.Goals as goal

pub append_block-done-requires-clause-few : goal.append_block-done-requires-clause-few
append_block-done-requires-clause-few c =
    let at : c.loop-displacement.displacement-index + 1 ≤ length c.args.displacements.now = omega arith in
    omega (arith, mul-le-mul_right (c.args.count * c.args.old.now.entries) at, c.loop-displacement.invariant.entries, c.requires.few)

pub loop-displacement-preserved : goal.loop-displacement-preserved
loop-displacement-preserved c =
    let i = c.loop-displacement.displacement-index in
    let xs = c.args.displacements.now in
    let e = c.extent-extent.result in
    let x = get_or xs i (pos 0) in
    let at : to_z w128 (of_z w128 c.scaled-at.result) ≡ x *ℤ extent_of c.args.old.now =
    rw (to_z-of_z w128 c.scaled-at.result (search rules), c.scaled-at.ensures.value, to_z-of_z w32 x (search rules), to_z-of_z w128 e (search rules), c.extent-extent.ensures.value) in
    record {
      value = indexed_of_more (block_at (extent_of c.args.old.now) c.args.count) c.args.old.now xs i (pos 0) c.loop-displacement-test.true _ _ _ _ c.append_block-done.ensures.value c.loop-displacement.invariant.value refl at;
      near = c.append_block-done.ensures.result_near;
      sound = c.append_block-done.ensures.result_sound;
      entries = omega (arith, c.append_block-done.ensures.entries, c.loop-displacement.invariant.entries);
    }
