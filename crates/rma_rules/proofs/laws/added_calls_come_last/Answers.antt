use Rattle.rma_rules.proofs.ListLemmas.{added_elsewhere, added_there}
use Rattle.rma_rules.proofs.laws.added_calls_come_last.Goals as goal

pub returns-clause-there : goal.returns-clause-there
returns-clause-there c = λ lists rank window call. added_there rank window call lists

pub returns-clause-others : goal.returns-clause-others
returns-clause-others c = λ lists rank other window elsewhere call apart. added_elsewhere rank other window elsewhere apart call lists
