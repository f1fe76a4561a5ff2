use Rattle.std.proofs.Common.{take}
use Rattle.rma_message.specs.Messages.{messages_of}
use Rattle.rma_message.specs.inside.Matched.{AreMatched}
use Rattle.rma_message.proofs.matched.matched_edges.Given as goal

-- the receives of the ranks before have their edges
abbrev pub invariant-loop-index : goal.invariant-loop-index
invariant-loop-index l = AreMatched (messages_of l.ranks).sends (messages_of (take l.index l.ranks)).receives l.edges l.queues.entries
