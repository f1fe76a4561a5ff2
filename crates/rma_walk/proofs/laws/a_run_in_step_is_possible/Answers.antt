use Rattle.rma_walk.proofs.StepLemmas.{in_step_is_possible}
use Rattle.rma_walk.proofs.laws.a_run_in_step_is_possible.Goals as goal

pub returns : goal.returns
returns c = in_step_is_possible
