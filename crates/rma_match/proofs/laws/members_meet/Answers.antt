use Rattle.rma_match.proofs.LinkLemmas.{awaited_is_met}
use Rattle.rma_match.proofs.laws.members_meet.Goals as goal

pub returns : goal.returns
returns c = λ ranks in_order own number call point of_run there waits count. awaited_is_met ranks in_order own number call point of_run there waits count
