-- Locks that keep accesses apart (MPI 4.0, "One-Sided Communications", lock).
use Rattle.std.specs.Prelude.{◌≡◌, ◌⊎◌, Contains, true}
use Rattle.rma_rules.specs.declared.lock.LockKey.{LockKey}
use Rattle.rma_rules.specs.Access.{Access}

-- two lock epochs of one target of one window that are never open at once: they are not the same epoch, and one is exclusive
abbrev pub AreExclusive : LockKey → LockKey → Type 0
AreExclusive k l =
    (k.window ≡ l.window) × (k.target ≡ l.target) × ((¬ (k.rank ≡ l.rank)) ⊎ (¬ (k.opener ≡ l.opener))) × ((k.exclusive ≡ true) ⊎ (l.exclusive ≡ true))

-- two accesses are made under such locks
unfoldable pub Separated : Access → Access → Type 0
Separated a b = (k : LockKey) × (l : LockKey) × Contains a.locks k × Contains b.locks l × AreExclusive k l
