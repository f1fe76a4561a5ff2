use Rattle.rma_form.proofs.CanonicalLemmas.{canonical_apart, canonical_states}
use Rattle.rma_form.proofs.laws.canonical_lines_are_read_back.Goals as goal

pub returns-clause-read_back : goal.returns-clause-read_back
returns-clause-read_back c = canonical_states

pub returns-clause-apart : goal.returns-clause-apart
returns-clause-apart c = canonical_apart
