use Rattle.std.proofs.Common.{◌≡◌, ◌++◌, take}
use Rattle.rma_sync.proofs.matching.append.Given as goal

-- the faults so far are appended
abbrev pub invariant-loop-fault : goal.invariant-loop-fault
invariant-loop-fault l = l.faults ≡ l.initial.faults ++ take l.fault-index l.fault-items
