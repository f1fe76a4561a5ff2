use Rattle.std.proofs.Common.{◌≡◌, ◌^◌, ◌*◌, take, map, sum_by}
use Rattle.rma_typemap.proofs.Words.{ByteBlock, IsNearby, IsSound, times, indexed_of, block_in_bytes}
use Rattle.rma_typemap.proofs.block_list.hindexed.Given as goal

abbrev pub invariant-loop-block : goal.invariant-loop-block
invariant-loop-block l = record {
  value : l.done ≡ indexed_of l.old (map block_in_bytes (take l.block-index l.blocks));
  near : IsNearby (2 ^ 83) l.done;
  sound : IsSound l.done;
  entries : l.done.entries ≡ sum_by (λ (b : ByteBlock). times b.length) (take l.block-index l.blocks) * l.old.entries;
}
