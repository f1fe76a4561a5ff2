use Rattle.std.proofs.Common.{take}
use Rattle.std.specs.Map.{keys_of}
use Rattle.rma_message.specs.RankMessages.{no_messages, with_calls}
use Rattle.rma_message.specs.inside.Matched.{AreKept}
use Rattle.rma_message.proofs.posted.PostedReceives.take_all.Given as goal

-- the receives of the calls before are kept
abbrev pub invariant-loop-i : goal.invariant-loop-i
invariant-loop-i l = AreKept l.rank (keys_of l.queues.entries) l.calls.whats (with_calls (no_messages l.rank) 0 (take l.i l.calls.calls)).receives l.self
