use Rattle.std.proofs.Common.{◌≤◌, ◌+◌, ◌-◌, length, take}
use Rattle.std.specs.Io.KnownBytes.{Appends}
use Rattle.rma_cli.specs.declared.standard_output.TheConstants.{WAITS}
use Rattle.rma_cli.proofs.standard_output.write_on.Given as goal

abbrev pub invariant-loop-written : goal.invariant-loop-written
invariant-loop-written g l = record {
  within : l.written ≤ length l.piece;
  bytes : Appends (g.W.Write.contents l.initial.output) (g.W.Write.contents l.output) (take l.written l.piece);
}

abbrev pub decreases-loop-written : goal.decreases-loop-written
decreases-loop-written g l = (length l.piece - l.written) + (WAITS - l.waits)
