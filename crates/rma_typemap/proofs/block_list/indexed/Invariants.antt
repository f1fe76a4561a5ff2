use Rattle.std.proofs.Common.{◌≡◌, ◌^◌, ◌*◌, take, map, sum_by}
use Rattle.rma_typemap.proofs.Words.{Block, IsNearby, IsSound, times, extent_of, indexed_of, block_in_extents}
use Rattle.rma_typemap.proofs.block_list.indexed.Given as goal

abbrev pub invariant-loop-block : goal.invariant-loop-block
invariant-loop-block l = record {
  value : l.done ≡ indexed_of l.old (map (block_in_extents (extent_of l.old)) (take l.block-index l.blocks));
  near : IsNearby (2 ^ 83) l.done;
  sound : IsSound l.done;
  entries : l.done.entries ≡ sum_by (λ (b : Block). times b.length) (take l.block-index l.blocks) * l.old.entries;
}
