use Rattle.std.proofs.Common.{[], take}
use Rattle.rma_message.specs.inside.Queue.{AreLeft}
use Rattle.rma_message.proofs.queue.queues_of.Given as goal

-- the calls of the ends before
abbrev pub invariant-loop-end : goal.invariant-loop-end
invariant-loop-end l = AreLeft (take l.end-index l.ends) [] l.queues.entries
