use Rattle.std.proofs.Common.{◌≡◌, [], map, replicate, take}
use Rattle.rma_walk.proofs.pending.empty_inboxes.Given as goal

abbrev pub invariant-loop-len : goal.invariant-loop-len
invariant-loop-len l = l.inboxes.items ≡ map (λ len. replicate len []) (take l.len-index l.lens)
