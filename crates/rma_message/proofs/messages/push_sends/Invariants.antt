use Rattle.std.proofs.Common.{◌≡◌, ◌++◌, take}
use Rattle.rma_message.proofs.messages.push_sends.Given as goal

-- the sends before are there
abbrev pub invariant-loop-send : goal.invariant-loop-send
invariant-loop-send l = l.sends ≡ l.fn.sends ++ take l.send-index l.more
