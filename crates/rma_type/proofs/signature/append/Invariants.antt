use Rattle.std.proofs.Common.{◌≡◌, ◌++◌, take}
use Rattle.rma_type.proofs.Words.{spread, AreRuns}
use Rattle.rma_type.proofs.signature.append.Given as goal

abbrev pub invariant-loop-run : goal.invariant-loop-run
invariant-loop-run l = record {
  same : spread l.done.items ≡ spread l.fn.done.items ++ spread (take l.run-index l.runs);
  apart : AreRuns l.done.items;
}
