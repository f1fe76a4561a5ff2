use Rattle.std.proofs.Common.{◌≡◌, length}
use Rattle.std.specs.Map.{keys_of}
use Rattle.rma_message.specs.declared.key.Key.{Key}
use Rattle.rma_message.specs.inside.Queue.{queue_of}
use Rattle.rma_message.specs.inside.Matched.{AreSendPlaces}
use Rattle.rma_message.proofs.sends.places_of.Given as goal

-- the places of the numbers before are there, and the queues are as they were
abbrev pub invariant-loop-number : goal.invariant-loop-number
invariant-loop-number l = record {
  len : length l.places.items ≡ l.number;
  places : AreSendPlaces l.rank (keys_of l.queues.entries) l.calls.whats l.places.items;
  queues : (key : Key) → queue_of l.queues.entries key ≡ queue_of l.initial.queues.entries key;
}
