use Rattle.rma_rows.specs.Logs.{AreLogsOf}
use Rattle.rma_rows.proofs.logs.read.Given as goal

-- the logs of the ranks before
abbrev pub invariant-loop-rank : goal.invariant-loop-rank
invariant-loop-rank l = AreLogsOf l.count l.rank l.calls.items
