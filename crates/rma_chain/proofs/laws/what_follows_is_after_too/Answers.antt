use Rattle.rma_chain.proofs.FollowLemmas.{later_after}
use Rattle.rma_chain.proofs.laws.what_follows_is_after_too.Goals as goal

pub returns : goal.returns
returns c = λ links windows spans a next b follows before. later_after links windows spans a next follows b before
