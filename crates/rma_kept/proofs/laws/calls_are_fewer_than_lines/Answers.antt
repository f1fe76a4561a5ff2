use Rattle.rma_kept.proofs.WholeLemmas.{few_checked, few_of_good, fewer_calls, fewer_than_bytes}
use Rattle.rma_kept.proofs.laws.calls_are_fewer_than_lines.Goals as goal

pub returns-clause-whole : goal.returns-clause-whole
returns-clause-whole c = fewer_calls

pub returns-clause-good : goal.returns-clause-good
returns-clause-good c = few_of_good

pub returns-clause-lines : goal.returns-clause-lines
returns-clause-lines c = few_checked

pub returns-clause-bytes : goal.returns-clause-bytes
returns-clause-bytes c = fewer_than_bytes
