use Rattle.std.proofs.Common.{◌≡◌, map, ◌++◌, take, drop}
use Rattle.rma_bytes.specs.Runs.{moved}
use Rattle.rma_bytes.proofs.movement.shift.Given as goal

abbrev pub invariant-each : goal.invariant-each
invariant-each l = l.runs ≡ map (moved l.by) (take l.run-index l.initial.runs) ++ drop l.run-index l.initial.runs
