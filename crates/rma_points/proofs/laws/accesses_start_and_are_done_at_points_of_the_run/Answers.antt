use Rattle.rma_points.proofs.AccessLemmas.{done_at_point, start_at_points}
use Rattle.rma_points.proofs.laws.accesses_start_and_are_done_at_points_of_the_run.Goals as goal

pub returns-clause-done : goal.returns-clause-done
returns-clause-done c = λ ranks a p run has is. done_at_point ranks run a has p is

pub returns-clause-starts : goal.returns-clause-starts
returns-clause-starts c = λ ranks a run has. start_at_points ranks run a has
