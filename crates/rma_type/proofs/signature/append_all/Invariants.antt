use Rattle.std.proofs.Common.{◌≡◌, ◌++◌}
use Rattle.rma_type.proofs.Words.{copies, spread, AreRuns}
use Rattle.rma_type.proofs.signature.append_all.Given as goal

abbrev pub invariant-loop-copy : goal.invariant-loop-copy
invariant-loop-copy l = record {
  same : spread l.done.items ≡ spread l.fn.done.items ++ copies l._copy (spread l.runs);
  apart : AreRuns l.done.items;
}
