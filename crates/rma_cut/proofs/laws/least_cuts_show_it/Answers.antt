use Rattle.rma_cut.proofs.LeastLemmas.{least_show_race}
use Rattle.rma_cut.proofs.laws.least_cuts_show_it.Goals as goal

pub returns : goal.returns
returns c = least_show_race
