use Rattle.rma_stream.proofs.LawLemmas.{one_findings}
use Rattle.rma_stream.proofs.laws.findings_are_one_list.Goals as goal

pub returns : goal.returns
returns c = one_findings
