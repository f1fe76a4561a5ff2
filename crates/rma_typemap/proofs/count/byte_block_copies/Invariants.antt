use Rattle.std.proofs.Common.{◌≡◌, ◌*◌, ◌^◌, ◌≤◌, take, sum_by}
use Rattle.rma_typemap.proofs.Words.{ByteBlock, times}
use Rattle.rma_typemap.proofs.count.byte_block_copies.Given as goal

abbrev pub invariant-loop-block : goal.invariant-loop-block
invariant-loop-block l = record {
  value : l.total ≡ sum_by (λ (b : ByteBlock). times b.length) (take l.block-index l.blocks);
  small : l.total ≤ l.block-index * 2 ^ 31;
}
