use Rattle.rma_type.proofs.Words.{spread}
use Rattle.rma_type.proofs.RunLemmas.{no_copies}
use Rattle.rma_type.proofs.signature.append_copies.Goals as goal

pub returns-in-empty-clause-same : goal.returns-in-empty-clause-same
returns-in-empty-clause-same c = no_copies c.args.count (spread c.args.done.now.items) c.args.runs.now c.in-empty.len_below
