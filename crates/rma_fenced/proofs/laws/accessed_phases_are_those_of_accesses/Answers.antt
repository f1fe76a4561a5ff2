use Rattle.rma_fenced.proofs.LawLemmas.{access_counts, access_is}
use Rattle.rma_fenced.proofs.laws.accessed_phases_are_those_of_accesses.Goals as goal

pub returns-clause-all : goal.returns-clause-all
returns-clause-all c = λ ranks target fence. access_counts ranks target fence

pub returns-clause-only : goal.returns-clause-only
returns-clause-only c = λ ranks target fence. access_is ranks target fence
