use Rattle.rma_chain.proofs.ChainLemmas.{follows_trans}
use Rattle.rma_chain.proofs.laws.what_follows_is_followed.Goals as goal

pub returns : goal.returns
returns c = follows_trans
