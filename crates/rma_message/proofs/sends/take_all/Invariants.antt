use Rattle.std.proofs.Common.{◌≡◌, ◌++◌, [], List, take}
use Rattle.std.specs.Map.{keys_of}
use Rattle.rma_base.specs.declared.rank.Rank.{Rank}
use Rattle.rma_message.specs.declared.end.End.{End}
use Rattle.rma_message.specs.RankMessages.{no_messages, with_calls}
use Rattle.rma_message.specs.inside.Queue.{AreLeft}
use Rattle.rma_message.specs.inside.Matched.{AreSendPlaces}
use Rattle.rma_message.proofs.sends.take_all.Given as goal

-- the sends among the calls before are in the queues
abbrev pub invariant-loop-i : goal.invariant-loop-i
invariant-loop-i l = record {
  keys : keys_of l.queues.entries ≡ keys_of l.initial.queues.entries;
  sends : (rank : Rank) (sends : List End) → AreSendPlaces rank (keys_of l.initial.queues.entries) l.calls.whats l.places → AreLeft sends [] l.initial.queues.entries
      → AreLeft (sends ++ (with_calls (no_messages rank) 0 (take l.i l.calls.calls)).sends) [] l.queues.entries;
}
