use Rattle.std.proofs.Common.{◌≡◌, length}
use Rattle.rma_findings_probe.proofs.audits.feed_logs.Given as goal

-- there is one book a rank
abbrev pub invariant-logs : goal.invariant-logs
invariant-logs l = length l.audit ≡ l.ranks
