use Rattle.std.proofs.Common.{take}
use Rattle.rma_io.specs.MemoryLogs.{files_of, NoneNamed}
use Rattle.rma_io.proofs.memory_logs.index_of.Given as goal

abbrev pub invariant-loop-index : goal.invariant-loop-index
invariant-loop-index l = NoneNamed (take l.index (files_of l.files)) l.name
