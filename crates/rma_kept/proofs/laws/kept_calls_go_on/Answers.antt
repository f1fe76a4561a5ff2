use Rattle.rma_kept.proofs.ListLemmas.{kept_more}
use Rattle.rma_kept.proofs.laws.kept_calls_go_on.Goals as goal

pub returns : goal.returns
returns c = kept_more
