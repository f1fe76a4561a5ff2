use Rattle.rma_pairs.proofs.NameLemmas.{names_are_own}
use Rattle.rma_pairs.proofs.laws.accesses_have_names_of_their_own.Goals as goal

pub returns : goal.returns
returns c = names_are_own
