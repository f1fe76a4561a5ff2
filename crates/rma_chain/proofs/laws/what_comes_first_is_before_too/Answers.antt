use Rattle.rma_chain.proofs.FollowLemmas.{earlier_before}
use Rattle.rma_chain.proofs.laws.what_comes_first_is_before_too.Goals as goal

pub returns : goal.returns
returns c = λ links windows spans a next b follows before. earlier_before links windows spans a next follows b before
