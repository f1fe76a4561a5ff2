use Rattle.rma_kept.proofs.WholeLemmas.{target_below}
use Rattle.rma_kept.proofs.laws.targets_have_logs.Goals as goal

pub returns : goal.returns
returns c = target_below
