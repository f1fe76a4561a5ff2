use Rattle.std.proofs.Common.{Ok}
use Rattle.rma_io.proofs.SourceLemmas.{IsPulled_sure, KeepsOpened_sure}
use Rattle.rma_io.proofs.sure_logs.SureLogsPulls.pull.Goals as goal

pub returns-clause-pulled : goal.returns-clause-pulled
returns-clause-pulled c =
    IsPulled_sure c.args.self.now c.args.room.now (Ok c.read_next.result) c.read_next.new.self c.read_next.new.room c.requires.room (c.read_next.ensures.read, c.read_next.ensures.same)

pub returns-clause-stays : goal.returns-clause-stays
returns-clause-stays c =
    KeepsOpened_sure c.args.self.now c.args.room.now (Ok c.read_next.result) c.read_next.new.self c.read_next.new.room (c.read_next.ensures.read, c.read_next.ensures.same)
