use Rattle.rma_round.proofs.StepLemmas.{rows_differ}
use Rattle.rma_round.proofs.step.are_the_same.Goals as goal

pub returns-clause-same : goal.returns-clause-same
returns-clause-same c = λ yes. record { numbers = c.first_numbers.result.now; all = c.are_as.ensures.same yes }

pub returns-clause-differ : goal.returns-clause-differ
returns-clause-differ c = λ no. rows_differ c.args.rows.now c.first_numbers.result.now c.first_numbers.ensures (c.are_as.ensures.differ no)
