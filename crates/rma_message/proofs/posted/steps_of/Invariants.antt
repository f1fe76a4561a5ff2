use Rattle.std.proofs.Common.{◌≡◌, length}
use Rattle.std.specs.Map.{keys_of}
use Rattle.rma_message.specs.inside.Matched.{AreSteps}
use Rattle.rma_message.proofs.posted.steps_of.Given as goal

-- the steps of the numbers before are there
abbrev pub invariant-loop-number : goal.invariant-loop-number
invariant-loop-number l = record {
  len : length l.steps.items ≡ l.number;
  steps : AreSteps l.rank (keys_of l.queues.entries) l.calls.whats l.steps.items;
}
