use Rattle.std.proofs.Common.{◌≡◌, map, take}
use Rattle.rma_stream.specs.Strict.{region_finding}
use Rattle.rma_stream.proofs.strict.of_regions.Given as goal

abbrev pub invariant-loop-fault : goal.invariant-loop-fault
invariant-loop-fault l = l.list ≡ map region_finding (take l.fault-index l.faults)
