use Rattle.rma_span.proofs.FreedLemmas.{freed_later}
use Rattle.rma_span.proofs.laws.kept_calls_are_freed_later.Goals as goal

pub returns : goal.returns
returns c = λ rank logs calls own kept is. freed_later rank logs calls own kept is
