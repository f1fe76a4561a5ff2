use Rattle.rma_rules.proofs.PartLemmas.{some_separate}
use Rattle.rma_rules.proofs.part.is_separate_at.Goals as goal

pub returns : goal.returns
returns c = rw c.is_some.ensures (some_separate c.args.windows.now c.args.a.now c.separate_window.result c.separate_window.ensures)
