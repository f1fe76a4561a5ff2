use Rattle.std.proofs.Common.{◌≡◌, ◌^◌, take}
use Rattle.rma_type.proofs.Words.{IsNearby, IsSound, struct_of, with_summaries, all_entries}
use Rattle.rma_type.proofs.table.TypeTable.join_members.Given as goal

abbrev pub invariant-loop-i : goal.invariant-loop-i
invariant-loop-i l = record {
  value : l.done ≡ struct_of (take l.i (with_summaries l.self.origins l.members l.old_types));
  near : IsNearby (2 ^ 83) l.done;
  sound : IsSound l.done;
  entries : l.done.entries ≡ all_entries (take l.i (with_summaries l.self.origins l.members l.old_types));
}
