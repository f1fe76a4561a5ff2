use Rattle.std.proofs.Common.{◌≡◌, take, filter}
use Rattle.rma_cover.specs.inside.Held.{keys_of, lasts_until}
use Rattle.rma_cover.proofs.own_locks.put_keys.Given as goal

-- the keys of those among the epochs so far
abbrev pub invariant-loop-own : goal.invariant-loop-own
invariant-loop-own l = l.keys.items ≡ keys_of (filter (lasts_until l.done) (take l.own-index l.held))
