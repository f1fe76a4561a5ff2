use Rattle.std.proofs.Common.{◌≡◌, map, take}
use Rattle.rma_stream.specs.Findings.{impossible}
use Rattle.rma_stream.proofs.order.impossible_findings.Given as goal

abbrev pub invariant-loop-call : goal.invariant-loop-call
invariant-loop-call l = l.list ≡ map impossible (take l.call-index l.found)
