use Rattle.rma_type.proofs.UniqueLemmas.{IsRunsOf_unique}
use Rattle.rma_type.proofs.laws.signatures_have_one_list_of_runs.Goals as goal

pub returns : goal.returns
returns c = IsRunsOf_unique
