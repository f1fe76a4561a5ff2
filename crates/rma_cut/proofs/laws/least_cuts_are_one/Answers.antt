use Rattle.rma_cut.proofs.LeastLemmas.{least_pair_is_one}
use Rattle.rma_cut.proofs.laws.least_cuts_are_one.Goals as goal

pub returns : goal.returns
returns c = least_pair_is_one
