use Rattle.std.proofs.Common.{All, take}
use Rattle.rma_io.specs.Schedule.{IsZero}
use Rattle.rma_io.specs.inside.OpenLogs.{lefts}
use Rattle.rma_io.proofs.open_log.first_left.Given as goal

abbrev pub invariant-loop-rank : goal.invariant-loop-rank
invariant-loop-rank l = All IsZero (take l.rank (lefts l.opened))
