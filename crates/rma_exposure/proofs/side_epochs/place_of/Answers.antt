use Rattle.rma_exposure.proofs.PlaceLemmas.{place_found}
use Rattle.rma_exposure.proofs.side_epochs.place_of.Goals as goal

pub returns-in-None : goal.returns-in-None
returns-in-None c = place_found c.args.windows.now.entries c.args.window.now c.get_index_of.result c.get_index_of.ensures.index c.get_index_of.ensures.found
