use Rattle.std.proofs.Common.{◌≡◌, map, take}
use Rattle.rma_report.specs.declared.finding.Finding.TheVariants.{Mismatch}
use Rattle.rma_stream.proofs.matching.mismatches.Given as goal

abbrev pub invariant-loop-fault : goal.invariant-loop-fault
invariant-loop-fault l = l.list ≡ map Mismatch (take l.fault-index l.fault-items)
