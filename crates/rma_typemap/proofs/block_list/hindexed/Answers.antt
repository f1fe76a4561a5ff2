use Rattle.std.proofs.Common.{◌*◌, pos, ap, ◌∙◌, arith, rules, get_or}
use Rattle.rma_typemap.proofs.Words.{w32, w64, w128, to_z-of_z, element_limit, ByteBlock, times, block_in_bytes}
use Rattle.rma_typemap.proofs.FoldLemmas.{indexed_of_more, few_more, entries_more}
use Rattle.rma_typemap.proofs.block_list.hindexed.Goals as goal

pub append_block-done-requires-clause-few : goal.append_block-done-requires-clause-few
append_block-done-requires-clause-few c =
    let d : ByteBlock = record { length = pos 0; displacement = pos 0 } in
    let b = get_or c.args.blocks.now c.loop-block.block-index d in
    let count = c.copies.ensures.value ∙ ap times (to_z-of_z w32 b.length (search rules)) in
    let few = few_more (λ (x : ByteBlock). times x.length) c.args.old.now.entries element_limit c.args.blocks.now c.loop-block.block-index d c.loop-block-test.true c.requires.few in
    omega (arith, few, c.loop-block.invariant.entries, ap (λ n. n * c.args.old.now.entries) count)

pub loop-block-preserved : goal.loop-block-preserved
loop-block-preserved c =
    let i = c.loop-block.block-index in
    let d : ByteBlock = record { length = pos 0; displacement = pos 0 } in
    let bs = c.args.blocks.now in
    let b = get_or bs i d in
    let count = c.copies.ensures.value ∙ ap times (to_z-of_z w32 b.length (search rules)) in
    let at = to_z-of_z w128 c.wide-at.result (search rules) ∙ c.wide-at.ensures.value ∙ to_z-of_z w64 b.displacement (search rules) in
    record {
      value = indexed_of_more block_in_bytes c.args.old.now bs i d c.loop-block-test.true _ _ _ _ c.append_block-done.ensures.value c.loop-block.invariant.value count at;
      near = c.append_block-done.ensures.result_near;
      sound = c.append_block-done.ensures.result_sound;
      entries = rw (c.append_block-done.ensures.entries, c.loop-block.invariant.entries, count) (entries_more (λ (x : ByteBlock). times x.length) c.args.old.now.entries bs i d c.loop-block-test.true);
    }
