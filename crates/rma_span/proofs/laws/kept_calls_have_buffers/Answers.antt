use Rattle.rma_span.proofs.FreedLemmas.{has_buffers}
use Rattle.rma_span.proofs.laws.kept_calls_have_buffers.Goals as goal

pub returns : goal.returns
returns c = λ rank logs place calls call kept there. has_buffers call.what (kept place call there).buffers_are_canonical
