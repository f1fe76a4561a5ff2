use Rattle.std.proofs.Common.{◌≤◌, ◌+◌, ◌*◌}
use Rattle.rma_tests.proofs.io.check_pulls.Given as goal

abbrev pub invariant-loop-want : goal.invariant-loop-want
invariant-loop-want g l =
    (g.P.Pulls.source l.source).taken ≤ (g.P.Pulls.source l.initial.source).taken + 8 * l.want-index
