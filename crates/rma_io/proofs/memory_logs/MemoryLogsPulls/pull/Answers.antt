use Rattle.std.proofs.Common.{Ok, rules}
use Rattle.rma_io.proofs.SourceLemmas.{IsPulled_memory, KeepsOpened_memory}
use Rattle.rma_io.proofs.memory_logs.MemoryLogsPulls.pull.Goals as goal

pub returns-clause-exactly : goal.returns-clause-exactly
returns-clause-exactly c = search rules

pub returns-clause-pulled : goal.returns-clause-pulled
returns-clause-pulled c =
    IsPulled_memory c.args.self.now c.args.room.now (Ok c.read_next.result) c.read_next.new.self c.read_next.new.room c.requires.room tt (returns-clause-exactly c)

pub returns-clause-stays : goal.returns-clause-stays
returns-clause-stays c =
    KeepsOpened_memory c.args.self.now c.args.room.now (Ok c.read_next.result) c.read_next.new.self c.read_next.new.room (returns-clause-exactly c)
