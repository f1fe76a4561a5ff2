use Rattle.rma_cut.proofs.ShowLemmas.{shown_unordered}
use Rattle.rma_cut.proofs.laws.shown_accesses_are_unordered.Goals as goal

pub returns : goal.returns
returns c = shown_unordered
