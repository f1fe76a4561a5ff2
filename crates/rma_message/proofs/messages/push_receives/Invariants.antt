use Rattle.std.proofs.Common.{◌≡◌, ◌++◌, take}
use Rattle.std.specs.List.{filter_map}
use Rattle.rma_message.specs.Receive.{end_of}
use Rattle.rma_message.proofs.messages.push_receives.Given as goal

-- the receives before are there
abbrev pub invariant-loop-receive : goal.invariant-loop-receive
invariant-loop-receive l = l.receives ≡ l.fn.receives ++ filter_map (end_of l.rank) (take l.receive-index l.more)
