use Rattle.rma_kept.proofs.WholeLemmas.{whole_is}
use Rattle.rma_kept.proofs.laws.calls_of_logs_are_whole.Goals as goal

pub returns : goal.returns
returns c = whole_is
