use Rattle.std.proofs.Common.{◌≡◌, ◌<◌, ℕ, get_or}
use Rattle.rma_rules.specs.declared.lock.LockKey.{LockKey}
use Rattle.rma_chain.specs.Chain.{whenever}
use Rattle.rma_chain.proofs.deed.are_same_locks.Given as goal

abbrev pub invariant-locks : goal.invariant-locks
invariant-locks l = (k : ℕ) → k < l.i → (d : LockKey) → whenever (get_or l.keys k d) ≡ whenever (get_or l.others k d)
