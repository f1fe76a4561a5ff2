use Rattle.std.proofs.Common.{◌≡◌, length}
use Rattle.rma_findings_probe.proofs.audits.feed_all.Given as goal

-- there is one book a rank
abbrev pub invariant-pieces : goal.invariant-pieces
invariant-pieces l = length l.audit ≡ l.ranks
