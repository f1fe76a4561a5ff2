use Rattle.rma_pairs.proofs.RaceLemmas.{are_one_list}
use Rattle.rma_pairs.proofs.laws.races_are_one_list.Goals as goal

pub returns : goal.returns
returns c = are_one_list
