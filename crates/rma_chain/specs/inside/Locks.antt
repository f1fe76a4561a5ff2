-- Locks that keep accesses of two ranks apart, whichever calls open their epochs (MPI 4.0, "One-Sided Communications", lock).
use Rattle.std.specs.Prelude.{◌≡◌, ◌⊎◌, List, Contains, true}
use Rattle.rma_rules.specs.declared.lock.LockKey.{LockKey}

-- two lock epochs of one target of one window, by two ranks, one of which is exclusive
abbrev pub ExcludeRanks : LockKey → LockKey → Type 0
ExcludeRanks k l = (k.window ≡ l.window) × (k.target ≡ l.target) × (¬ (k.rank ≡ l.rank)) × ((k.exclusive ≡ true) ⊎ (l.exclusive ≡ true))

-- one of some lock epochs and one of others are such
abbrev pub AnyExcludeRanks : List LockKey → List LockKey → Type 0
AnyExcludeRanks keys others = (k : LockKey) × (l : LockKey) × Contains keys k × Contains others l × ExcludeRanks k l
