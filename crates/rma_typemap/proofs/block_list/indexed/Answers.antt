use Rattle.std.proofs.Common.{◌≡◌, ◌*◌, pos, ◌*ℤ◌, ap, ◌∙◌, arith, rules, to_z, of_z, get_or}
use Rattle.rma_typemap.proofs.Words.{w32, w128, to_z-of_z, element_limit, Block, times, extent_of, block_in_extents}
use Rattle.rma_typemap.proofs.FoldLemmas.{indexed_of_more, few_more, entries_more}
use Rattle.rma_typemap.proofs.block_list.indexed.Goals as goal

pub append_block-done-requires-clause-few : goal.append_block-done-requires-clause-few
append_block-done-requires-clause-few c =
    let d : Block = record { length = pos 0; displacement = pos 0 } in
    let b = get_or c.args.blocks.now c.loop-block.block-index d in
    let count = c.copies.ensures.value ∙ ap times (to_z-of_z w32 b.length (search rules)) in
    let few = few_more (λ (x : Block). times x.length) c.args.old.now.entries element_limit c.args.blocks.now c.loop-block.block-index d c.loop-block-test.true c.requires.few in
    omega (arith, few, c.loop-block.invariant.entries, ap (λ n. n * c.args.old.now.entries) count)

pub loop-block-preserved : goal.loop-block-preserved
loop-block-preserved c =
    let i = c.loop-block.block-index in
    let d : Block = record { length = pos 0; displacement = pos 0 } in
    let bs = c.args.blocks.now in
    let e = c.extent-extent.result in
    let b = get_or bs i d in
    let count = c.copies.ensures.value ∙ ap times (to_z-of_z w32 b.length (search rules)) in
    let at : to_z w128 (of_z w128 c.scaled-at.result) ≡ b.displacement *ℤ extent_of c.args.old.now =
    rw (to_z-of_z w128 c.scaled-at.result (search rules), c.scaled-at.ensures.value, to_z-of_z w32 b.displacement (search rules), to_z-of_z w128 e (search rules), c.extent-extent.ensures.value) in
    record {
      value = indexed_of_more (block_in_extents (extent_of c.args.old.now)) c.args.old.now bs i d c.loop-block-test.true _ _ _ _ c.append_block-done.ensures.value c.loop-block.invariant.value count at;
      near = c.append_block-done.ensures.result_near;
      sound = c.append_block-done.ensures.result_sound;
      entries = rw (c.append_block-done.ensures.entries, c.loop-block.invariant.entries, count) (entries_more (λ (x : Block). times x.length) c.args.old.now.entries bs i d c.loop-block-test.true);
    }
