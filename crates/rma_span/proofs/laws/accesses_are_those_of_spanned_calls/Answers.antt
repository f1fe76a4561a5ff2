use Rattle.rma_span.proofs.ListedLemmas.{all_accesses}
use Rattle.rma_span.proofs.laws.accesses_are_those_of_spanned_calls.Goals as goal

pub returns : goal.returns
returns c = all_accesses
