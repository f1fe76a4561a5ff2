use Rattle.rma_kept.proofs.ListLemmas.{kept_take}
use Rattle.rma_kept.proofs.laws.first_calls_are_kept.Goals as goal

pub returns : goal.returns
returns c = kept_take
