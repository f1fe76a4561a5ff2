use Rattle.std.proofs.Common.{take}
use Rattle.rma_io.specs.MemorySink.{GoesWell}
use Rattle.rma_io.proofs.memory_sink.planned.Given as goal

abbrev pub invariant-loop-fail : goal.invariant-loop-fail
invariant-loop-fail l = GoesWell (take l.fail-index l.fails) l.number
