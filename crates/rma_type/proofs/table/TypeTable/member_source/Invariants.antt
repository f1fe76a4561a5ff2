use Rattle.std.proofs.Common.{◌≡◌, take}
use Rattle.rma_type.proofs.Words.{spread, AreRuns, with_signatures, struct_signature}
use Rattle.rma_type.proofs.table.TypeTable.member_source.Given as goal

abbrev pub invariant-loop-i : goal.invariant-loop-i
invariant-loop-i l = record {
  same : spread l.runs.items ≡ struct_signature (take l.i (with_signatures l.self.origins l.members l.old_types));
  apart : AreRuns l.runs.items;
}
