use Rattle.std.proofs.Common.{ℕ, ◌<◌, get_or}
use Rattle.rma_rules.specs.declared.lock.LockKey.{LockKey}
use Rattle.rma_chain.specs.inside.Locks.{ExcludeRanks}
use Rattle.rma_chain.proofs.deed.excludes_a_rank.Given as goal

abbrev pub invariant-loop-other : goal.invariant-loop-other
invariant-loop-other l = (k : ℕ) → k < l.other-index → (d : LockKey) → ExcludeRanks l.key (get_or l.others k d) → ⊥
