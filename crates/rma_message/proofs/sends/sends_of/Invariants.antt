use Rattle.std.proofs.Common.{◌≤◌, [], length, take}
use Rattle.std.specs.Prelude.{All}
use Rattle.rma_base.specs.Limits.{fed_limit}
use Rattle.rma_message.specs.Messages.{messages_of}
use Rattle.rma_message.specs.inside.Queue.{AreLeft}
use Rattle.rma_message.proofs.sends.sends_of.Given as goal

-- the sends of the ranks before are in the queues
abbrev pub invariant-loop-own : goal.invariant-loop-own
invariant-loop-own l = record {
  sends : AreLeft (messages_of (take l.own-index l.ranks)).sends [] l.queues.entries;
  few : All (λ r. length r.calls ≤ fed_limit) (take l.own-index l.ranks);
}
