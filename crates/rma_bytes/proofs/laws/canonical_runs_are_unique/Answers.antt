use Rattle.rma_bytes.proofs.RunLemmas.{canonical_unique}
use Rattle.rma_bytes.proofs.laws.canonical_runs_are_unique.Goals as goal

pub returns : goal.returns
returns c = canonical_unique
