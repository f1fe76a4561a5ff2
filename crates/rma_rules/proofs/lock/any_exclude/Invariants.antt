use Rattle.std.proofs.Common.{ℕ, ◌<◌, Contains, get_or}
use Rattle.rma_rules.specs.declared.lock.LockKey.{LockKey}
use Rattle.rma_rules.specs.Lock.{AreExclusive}
use Rattle.rma_rules.proofs.lock.any_exclude.Given as goal

abbrev pub invariant-loop-key : goal.invariant-loop-key
invariant-loop-key l = (k : ℕ) → k < l.key-index → (d other : LockKey) → Contains l.others other → AreExclusive (get_or l.keys k d) other → ⊥
