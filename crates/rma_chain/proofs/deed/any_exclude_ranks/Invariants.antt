use Rattle.std.proofs.Common.{ℕ, ◌<◌, Contains, get_or}
use Rattle.rma_rules.specs.declared.lock.LockKey.{LockKey}
use Rattle.rma_chain.specs.inside.Locks.{ExcludeRanks}
use Rattle.rma_chain.proofs.deed.any_exclude_ranks.Given as goal

abbrev pub invariant-loop-key : goal.invariant-loop-key
invariant-loop-key l = (k : ℕ) → k < l.key-index → (d other : LockKey) → Contains l.others other → ExcludeRanks (get_or l.keys k d) other → ⊥
