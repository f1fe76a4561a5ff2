use Rattle.rma_walk.proofs.OutcomeLemmas.{firsts_once}
use Rattle.rma_walk.proofs.laws.first_impossible_calls_are_one_list.Goals as goal

pub returns : goal.returns
returns c = firsts_once
