use Rattle.rma_kept.proofs.WholeLemmas.{kept_of_good}
use Rattle.rma_kept.proofs.laws.calls_of_good_lines_are_kept.Goals as goal

pub returns : goal.returns
returns c = kept_of_good
