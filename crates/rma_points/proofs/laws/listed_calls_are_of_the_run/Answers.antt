use Rattle.rma_points.proofs.AskedLemmas.{published_of_run, shown_of_run}
use Rattle.rma_points.proofs.laws.listed_calls_are_of_the_run.Goals as goal

pub returns-clause-publishing : goal.returns-clause-publishing
returns-clause-publishing c = λ ranks spans own window v run are of_run has. published_of_run ranks run spans are own of_run window v has

pub returns-clause-visible : goal.returns-clause-visible
returns-clause-visible c = λ ranks spans own window v run are of_run has. shown_of_run ranks run spans are own of_run window v has
