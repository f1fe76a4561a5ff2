use Rattle.std.proofs.Common.{◌≡◌, ◌≤◌, ◌*◌, ◌^◌, take}
use Rattle.rma_type.proofs.Words.{with_summaries, all_entries}
use Rattle.rma_type.proofs.table.TypeTable.members_exceed.Given as goal

abbrev pub invariant-loop-i : goal.invariant-loop-i
invariant-loop-i l = record {
  value : l.total ≡ all_entries (take l.i (with_summaries l.self.origins l.members l.old_types));
  small : l.total ≤ l.i * 2 ^ 58;
}
