use Rattle.std.proofs.Common.{◌≡◌, map, take}
use Rattle.rma_stream.specs.Strict.{assertion_finding}
use Rattle.rma_stream.proofs.strict.of_assertions.Given as goal

abbrev pub invariant-loop-one : goal.invariant-loop-one
invariant-loop-one l = l.list ≡ map assertion_finding (take l.one-index l.broken)
