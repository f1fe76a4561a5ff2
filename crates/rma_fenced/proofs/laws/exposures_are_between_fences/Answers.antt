use Rattle.rma_fenced.proofs.ExposureLemmas.{fenced_is, is_fenced}
use Rattle.rma_fenced.proofs.laws.exposures_are_between_fences.Goals as goal

pub returns-clause-only : goal.returns-clause-only
returns-clause-only c = λ phases windows rank sound exposure. fenced_is phases windows rank sound exposure

pub returns-clause-all : goal.returns-clause-all
returns-clause-all c = λ phases windows rank sound exposure. is_fenced phases windows rank sound exposure
