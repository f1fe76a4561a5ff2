use Rattle.rma_members.proofs.RoundLemmas.{round_is}
use Rattle.rma_members.proofs.laws.rounds_have_all_members.Goals as goal

pub returns : goal.returns
returns c = λ kind ranks name place some rank matched has. round_is ranks matched kind name place some rank has
