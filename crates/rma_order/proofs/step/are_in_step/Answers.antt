use Rattle.std.proofs.lemmas.Result.{IfOk-weaker}
use Rattle.rma_run.specs.Run.{calls_of}
use Rattle.rma_order.proofs.step.are_in_step.Goals as goal

pub returns-then-lead_on-clause-rounds : goal.returns-then-lead_on-clause-rounds
returns-then-lead_on-clause-rounds c = IfOk-weaker c.are_in_step.result _ _ (λ is step yes ranks represents. step yes (calls_of ranks) represents) c.are_in_step.ensures.step
