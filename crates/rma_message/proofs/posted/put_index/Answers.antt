use Rattle.rma_message.proofs.PostedLemmas.{index_put}
use Rattle.rma_message.proofs.posted.put_index.Goals as goal

pub returns : goal.returns
returns c = λ other. index_put c.args.indexes.now.items c.args.place c.args.index other c.requires
