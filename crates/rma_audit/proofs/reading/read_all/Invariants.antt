use Rattle.std.proofs.Common.{◌≡◌, ◌≤◌, ◌-◌}
use Rattle.rma_base.specs.Limits.{byte_limit}
use Rattle.rma_audit.specs.inside.Progress.{AfterPulls, FollowsSource}
use Rattle.rma_audit.proofs.reading.read_all.Given as goal

-- the books were fed what was taken
abbrev pub invariant-pieces : goal.invariant-pieces
invariant-pieces g l =
    let source = g.P.Pulls.source in
    FollowsSource (source l.logs) l.audit
    × ((source l.logs).taken ≡ l.taken)
    × (l.taken ≤ byte_limit)
    × ((source l.fn.logs).faults ≤ (source l.logs).faults)
    × AfterPulls g.P.Pulls.stays l.fn.logs l.logs

abbrev pub decreases-pieces : goal.decreases-pieces
decreases-pieces g l = byte_limit - l.taken
