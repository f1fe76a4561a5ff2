use Rattle.rma_pairs.proofs.RaceLemmas.{is_one}
use Rattle.rma_pairs.proofs.laws.names_have_one_race.Goals as goal

pub returns : goal.returns
returns c = is_one
