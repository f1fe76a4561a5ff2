use Rattle.rma_round.proofs.MeetLemmas.{meet_is, meet_has}
use Rattle.rma_round.proofs.laws.meets_are_of_rounds.Goals as goal

pub returns : goal.returns
returns c = λ ranks meet. (meet_is ranks meet, meet_has ranks meet)
