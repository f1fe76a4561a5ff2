use Rattle.std.proofs.Common.{ap}
use Rattle.rma_message.proofs.SendLemmas.{found_place}
use Rattle.rma_message.proofs.posted.place_of.Goals as goal

pub returns : goal.returns
returns c = found_place _ _ _ _ c.get_index_of.ensures.index (ap (λ name. record { from = c.args.from; to = c.args.rank; comm = name; tag = c.args.tag }) c.in_ok-comm.ensures)
