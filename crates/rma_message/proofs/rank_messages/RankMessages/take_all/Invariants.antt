use Rattle.std.proofs.Common.{◌≡◌, take}
use Rattle.rma_message.specs.RankMessages.{with_calls}
use Rattle.rma_message.proofs.rank_messages.RankMessages.take_all.Given as goal

-- the calls before are taken
abbrev pub invariant-loop-i : goal.invariant-loop-i
invariant-loop-i l = l.self ≡ with_calls l.initial.self 0 (take l.i l.calls.calls)
