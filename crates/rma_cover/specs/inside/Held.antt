-- The lock epochs of a rank on itself that are held, as its calls go on.
use Rattle.std.specs.Prelude.{◌≡◌, ◌<◌, ◌≤◌, ℕ, ◌&&◌, List, Bool, nat_lt, Option, Some, option_map, map, filter, take, length, slice_index_or}
use Rattle.std.specs.List.{filter_map}
use Rattle.std.specs.List.Sorted.{IsNonDecreasingBy}
use Rattle.rma_base.specs.declared.rank.Rank.{Rank}
use Rattle.rma_window.specs.Windows.{Window}
use Rattle.rma_epoch.specs.declared.epoch.Epoch.{Epoch}
use Rattle.rma_rules.specs.declared.lock.LockKey.{LockKey}
use Rattle.rma_cover.specs.declared.own_locks.OwnLock.{OwnLock}
use Rattle.rma_cover.specs.declared.own_locks.OwnLocks.{OwnLocks}
use Rattle.rma_cover.specs.Cover.{lasts, own_key}

-- a lock epoch of a rank on itself, with the call that closes it
abbrev pub own_lock : List Window → Rank → Epoch → Option OwnLock
own_lock windows rank epoch = option_map (λ key. record { key = key; close = epoch.close }) (own_key windows rank epoch)

-- all of a rank, in the order of their opening
abbrev pub all_own : List Window → Rank → List Epoch → List OwnLock
all_own windows rank epochs = filter_map (own_lock windows rank) epochs

-- the number of the call that opens it
abbrev pub opener_of : OwnLock → ℕ
opener_of own = own.key.opener

-- the epoch lasts until the call of this number, or for ever
abbrev pub lasts_until : Option ℕ → OwnLock → Bool
lasts_until done own = lasts own.close done

-- it is opened before a call, and lasts until another one
abbrev pub covers_own : ℕ → Option ℕ → OwnLock → Bool
covers_own number done own = nat_lt own.key.opener number && lasts own.close done

-- the keys of some epochs
abbrev pub keys_of : List OwnLock → List LockKey
keys_of owns = map (λ own. own.key) owns

-- what is kept represents these epochs of a rank at the call of a number: all that are on the rank itself; those before the next
-- one are opened before that call, the others are not, and those that are held are the former which last until it
pub record Represents (windows : List Window) (rank : Rank) (epochs : List Epoch) (number : ℕ) (own : OwnLocks) : Type 0 where
  pub all_are : own.all.items ≡ all_own windows rank epochs
  pub ascend : IsNonDecreasingBy opener_of (all_own windows rank epochs)
  pub within : own.next ≤ length (all_own windows rank epochs)
  pub opened : (i : ℕ) (d : OwnLock) → i < own.next → opener_of (slice_index_or (all_own windows rank epochs) i d) < number
  pub unopened : (i : ℕ) (d : OwnLock) → own.next ≤ i → i < length (all_own windows rank epochs) → number ≤ opener_of (slice_index_or (all_own windows rank epochs) i d)
  pub held_are : own.held.items ≡ filter (lasts_until (Some number)) (take own.next (all_own windows rank epochs))
