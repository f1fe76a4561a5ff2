use Rattle.rma_completion.proofs.FirstLemmas.{is_first_after}
use Rattle.rma_completion.proofs.laws.first_calls_are_first.Goals as goal

pub returns : goal.returns
returns c = λ test calls number first is. is_first_after test number calls first is
