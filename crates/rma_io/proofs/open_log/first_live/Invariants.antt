use Rattle.std.proofs.Common.{All, take}
use Rattle.rma_io.specs.Schedule.{IsIdle}
use Rattle.rma_io.specs.inside.OpenLogs.{lefts}
use Rattle.rma_io.proofs.open_log.first_live.Given as goal

abbrev pub invariant-loop-index : goal.invariant-loop-index
invariant-loop-index l = All (IsIdle (lefts l.opened)) (take l.index l.cuts)
