use Rattle.std.proofs.Common.{◌≡◌, ◌≤◌, ◌+◌, length}
use Rattle.rma_tests.proofs.io.check_opens.Given as goal

abbrev pub invariant-loop-want : goal.invariant-loop-want
invariant-loop-want g l =
    (length (g.L.Logs.opened l.source).names ≤ length (g.L.Logs.opened l.initial.source).names + l.want-index)
    × ((g.L.Pulls.source l.source).taken ≡ (g.L.Pulls.source l.initial.source).taken)
