use Rattle.std.proofs.Common.{ap}
use Rattle.rma_form.specs.declared.event.Event.TheVariants.{Datatype}
use Rattle.rma_form.proofs.WrittenLemmas.{written_as}
use Rattle.rma_form.proofs.line.datatype.line.Goals as goal

pub returns-in-Commit : goal.returns-in-Commit
returns-in-Commit c = written_as _ _ _ (ap Datatype c.in-Commit.is) c.named_line.ensures

pub returns-in-Free : goal.returns-in-Free
returns-in-Free c = written_as _ _ _ (ap Datatype c.in-Free.is) c.named_line-in-Free.ensures
