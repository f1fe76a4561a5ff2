use Rattle.std.proofs.Common.{◌≡◌, ◌≤◌, length, take}
use Rattle.std.specs.Prelude.{All}
use Rattle.rma_base.specs.Limits.{fed_limit}
use Rattle.rma_message.specs.Messages.{messages_of}
use Rattle.rma_message.proofs.messages.Messages.of_calls.Given as goal

-- the ranks before are there
abbrev pub invariant-loop-own : goal.invariant-loop-own
invariant-loop-own l = record {
  there : l.messages ≡ messages_of (take l.own-index l.ranks);
  few : All (λ r. length r.calls ≤ fed_limit) (take l.own-index l.ranks);
}
