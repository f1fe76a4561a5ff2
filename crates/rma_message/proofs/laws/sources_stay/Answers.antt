use Rattle.rma_message.proofs.StayLemmas.{source_stays}
use Rattle.rma_message.proofs.laws.sources_stay.Goals as goal

pub returns : goal.returns
returns c = source_stays
