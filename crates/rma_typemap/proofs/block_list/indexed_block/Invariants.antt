use Rattle.std.proofs.Common.{◌≡◌, ◌^◌, ◌*◌, take, map}
use Rattle.rma_typemap.proofs.Words.{IsNearby, IsSound, extent_of, indexed_of, block_at}
use Rattle.rma_typemap.proofs.block_list.indexed_block.Given as goal

abbrev pub invariant-loop-displacement : goal.invariant-loop-displacement
invariant-loop-displacement l = record {
  value : l.done ≡ indexed_of l.old (map (block_at (extent_of l.old) l.count) (take l.displacement-index l.displacements));
  near : IsNearby (2 ^ 83) l.done;
  sound : IsSound l.done;
  entries : l.done.entries ≡ l.displacement-index * (l.count * l.old.entries);
}
