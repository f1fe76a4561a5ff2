-- The lock epochs in which accesses lie (MPI 4.0, "One-Sided Communications", lock).
use Rattle.std.specs.Prelude.{◌≡◌, ◌≤◌, ℕ, ◌+◌, ◌==◌, ◌&&◌, ◌⊎◌, List, [], ◌∷◌, ◌++◌, length, Bool, true, false, nat_lt, nat_le, Option, Some, None, is_some, option_map, slice_get, if◌then◌else◌}
use Rattle.std.specs.List.{filter_map}
use Rattle.rma_base.specs.declared.rank.Rank.{Rank}
use Rattle.rma_window.specs.Windows.{Window, part_of}
use Rattle.rma_open.specs.declared.opening.EpochKind.{EpochKind}
use Rattle.rma_open.specs.declared.opening.EpochKind.TheVariants.{Lock, LockAll}
use Rattle.rma_epoch.specs.declared.epoch.Epoch.{Epoch}
use Rattle.rma_epoch.specs.declared.epoch.Targets.{Targets}
use Rattle.rma_epoch.specs.declared.epoch.Targets.TheVariants.{All, One, Group}
use Rattle.rma_rules.specs.declared.lock.LockKey.{LockKey}

-- whether a lock epoch of this kind keeps all others away; none where it is no lock epoch
abbrev pub locks : EpochKind → Option Bool
locks (Lock exclusive) = Some exclusive
locks LockAll = Some false
locks _ = None

-- whether an epoch has a rank among its targets: a lock its one target, a lockall each rank that has a part of the window
abbrev pub reaches : List Window → Epoch → Targets → Rank → Bool
reaches windows epoch All rank = is_some (part_of windows epoch.window rank)
reaches windows epoch (One target) rank = target.0 == rank.0
reaches windows epoch (Group targets) rank = false

-- a lock epoch of a rank as it covers what is accessed at a target
abbrev pub key_of : Rank → Epoch → Rank → Option LockKey
key_of rank epoch target =
    option_map (λ exclusive. record { window = epoch.window; target = target; rank = rank; opener = epoch.opener; exclusive = exclusive }) (locks epoch.kind)

-- a lock epoch of a rank on itself
abbrev pub own_key : List Window → Rank → Epoch → Option LockKey
own_key windows rank epoch = if reaches windows epoch epoch.targets rank then key_of rank epoch rank else None

-- an epoch that is closed by this call, if by any, is open still at the entry of the call by which an access is done; one that is
-- never done lies in it only where nothing closes it
abbrev pub lasts : Option ℕ → Option ℕ → Bool
lasts None _ = true
lasts (Some close) None = false
lasts (Some close) (Some done) = nat_le done close

-- an epoch is opened before the call of this number, and lasts until that by which its access is done
abbrev pub covers : ℕ → Option ℕ → Epoch → Bool
covers number done epoch = nat_lt epoch.opener number && lasts epoch.close done

-- the lock epochs of a rank on itself in which an access to its own memory lies, by the number of its call and that of the call by
-- which it is done, if by any
abbrev pub own_locks : List Window → Rank → List Epoch → ℕ → Option ℕ → List LockKey
own_locks windows rank epochs number done = filter_map (λ epoch. if covers number done epoch then own_key windows rank epoch else None) epochs

-- no access is done before its own call
abbrev pub IsFrom : ℕ → Option ℕ → Type 0
IsFrom number None = Unit {0}
IsFrom number (Some done) = number ≤ done

-- lists stay where they are, and more may come
abbrev pub StayThere : List (List LockKey) → List (List LockKey) → Type 0
StayThere old new = (number : ℕ) (list : List LockKey) → slice_get old number ≡ Some list → slice_get new number ≡ Some list

-- a list is the last of some, and has this number
pub record IsLast (lists : List (List LockKey)) (number : ℕ) (list : List LockKey) : Type 0 where
  pub ends : number + 1 ≡ length lists
  pub there : slice_get lists number ≡ Some list

-- the lists with one more behind them, and as they are where it is the last already
abbrev pub AreWith : List (List LockKey) → List LockKey → List (List LockKey) → Type 0
AreWith old list new = ((number : ℕ) × IsLast old number list × (new ≡ old)) ⊎ (((number : ℕ) → IsLast old number list → ⊥) × (new ≡ old ++ list ∷ []))
