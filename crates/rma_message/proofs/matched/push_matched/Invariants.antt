use Rattle.std.proofs.Common.{◌≡◌, ◌++◌, Some, slice_get, take}
use Rattle.std.specs.List.{filter_map}
use Rattle.std.specs.Map.{keys_of}
use Rattle.rma_call.specs.Call.{RankCalls}
use Rattle.rma_message.specs.Receive.{end_of}
use Rattle.rma_message.specs.RankMessages.{messages_by}
use Rattle.rma_message.specs.Messages.{messages_of}
use Rattle.rma_message.specs.inside.Matched.{AreMatched}
use Rattle.rma_message.proofs.matched.push_matched.Given as goal

-- the receives before have their edges
abbrev pub invariant-loop-own : goal.invariant-loop-own
invariant-loop-own l = record {
  keys : keys_of l.queues.entries ≡ keys_of l.initial.queues.entries;
  matched : (own : RankCalls) → slice_get l.ranks l.index ≡ Some own
      → AreMatched (messages_of l.ranks).sends ((messages_of (take l.index l.ranks)).receives ++ filter_map (end_of own.rank) (take l.own-index (messages_by own).receives)) l.edges l.queues.entries;
}
