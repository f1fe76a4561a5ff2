use Rattle.rma_judge.proofs.TypeLemmas.{is_freed}
use Rattle.rma_judge.proofs.book.datatype.change.Goals as goal

pub returns-in-Free : goal.returns-in-Free
returns-in-Free c =
    rw (c.in-Free.is, c.fault_in-in-Free.ensures) (is_freed c.args.table.now c.free.new.self c.in-Free.name c.free.result c.free.ensures.fault c.free.ensures.unknown c.free.ensures.ok c.free.ensures.err)
