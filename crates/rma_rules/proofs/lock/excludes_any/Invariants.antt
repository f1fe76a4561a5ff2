use Rattle.std.proofs.Common.{ℕ, ◌<◌, get_or}
use Rattle.rma_rules.specs.declared.lock.LockKey.{LockKey}
use Rattle.rma_rules.specs.Lock.{AreExclusive}
use Rattle.rma_rules.proofs.lock.excludes_any.Given as goal

abbrev pub invariant-loop-other : goal.invariant-loop-other
invariant-loop-other l = (k : ℕ) → k < l.other-index → (d : LockKey) → AreExclusive l.key (get_or l.others k d) → ⊥
