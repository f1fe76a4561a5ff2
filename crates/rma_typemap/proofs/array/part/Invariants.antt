use Rattle.std.proofs.Common.{◌≡◌, ◌^◌, ◌*◌, ◌+◌, ◌-◌, drop, length, pos, ◌*ℤ◌}
use Rattle.rma_typemap.proofs.Words.{address_limit, IsNearby, IsSound, cuts_of, whole_of_cuts, part_of_cuts, cut_part}
use Rattle.rma_typemap.proofs.array.part.Given as goal

abbrev pub invariant-loop-k : goal.invariant-loop-k
invariant-loop-k l =
    let rest = drop (length l.dimensions - l.k) (cuts_of l.order l.dimensions) in
    record {
      value : l.part ≡ cut_part l.extent rest l.old;
      stride : l.stride ≡ pos (whole_of_cuts rest) *ℤ l.extent;
      near : IsNearby (address_limit + whole_of_cuts rest * 2 ^ 50) l.part;
      sound : IsSound l.part;
      entries : l.part.entries ≡ part_of_cuts rest * l.old.entries;
    }
