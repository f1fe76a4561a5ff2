-- Locks whose `nocheck` does not hold (MPI 4.0, "One-Sided Communications", assertions: no other lock that excludes this one is held, nor
-- asked for, while it is).
use Rattle.std.specs.Prelude.{◌≡◌, ◌≢◌, ℕ, Bool, true, false, ◌||◌, List, Option, Some, None, Contains, slice_get}
use Rattle.std.specs.Option.{option_and_then}
use Rattle.rma_base.specs.declared.rank.Rank.{Rank}
use Rattle.rma_call.specs.Call.{Call}
use Rattle.rma_call.specs.declared.epoch.EpochCall.TheVariants.{Lock, LockAll}
use Rattle.rma_call.specs.declared.epoch.LockKind.{LockKind}
use Rattle.rma_call.specs.declared.epoch.LockKind.TheVariants.{Exclusive, Shared}
use Rattle.rma_call.specs.declared.what.SyncCall.TheVariants.{Epoch}
use Rattle.rma_call.specs.declared.what.What.{What}
use Rattle.rma_call.specs.declared.what.What.TheVariants.{Sync}
use Rattle.rma_link.specs.declared.links.Links.{Links}
use Rattle.rma_link.specs.Order.{IsAtOrBefore}
use Rattle.rma_link.specs.Point.{entry, return_of}
use Rattle.rma_rules.specs.declared.span.LockSpan.{LockSpan}
use Rattle.rma_assert.specs.declared.assertion.AssertionReason.TheVariants.{NocheckLock}
use Rattle.rma_assert.specs.declared.assertion.BrokenAssertion.{BrokenAssertion}
use Rattle.rma_assert.specs.declared.locks.Locking.{Locking}

-- whether a lock keeps all others away
abbrev pub is_exclusive : LockKind → Bool
is_exclusive Exclusive = true
is_exclusive Shared = false

-- how a call locks: whether it keeps all other locks away, which a lockall does not, and whether it says `nocheck`
abbrev pub kind_of : What → Option Locking
kind_of (Sync (Epoch (Lock window target kind assertions))) = Some (record { exclusive = is_exclusive kind; nocheck = assertions.nocheck })
kind_of (Sync (Epoch (LockAll window assertions))) = Some (record { exclusive = false; nocheck = assertions.nocheck })
kind_of _ = None

-- how the call locks that opens a lock epoch
abbrev pub locking_at : (ℕ → List Call) → LockSpan → Option Locking
locking_at calls lock = option_and_then (λ call. kind_of call.what) (slice_get (calls lock.rank.0) lock.opener)

-- two lock epochs have a target in common: that of both, or that of one where the other locks all
abbrev pub HaveTarget : Option Rank → Option Rank → Type 0
HaveTarget None b = Unit {0}
HaveTarget (Some a) None = Unit {0}
HaveTarget (Some a) (Some b) = a ≡ b

-- a rank has returned from the unlock of its epoch when another one enters its lock
unfoldable pub IsUnlockedFirst : Links → LockSpan → LockSpan → Type 0
IsUnlockedFirst links a b = (close : ℕ) × (a.close ≡ Some close) × IsAtOrBefore links (return_of a.rank close) (entry b.rank b.opener)

-- the lock epochs of two ranks are of one window and at one target, and neither is surely over when the other begins
pub record MayBeHeldAtOnce (links : Links) (own other : LockSpan) : Type 0 where
  pub window : own.window ≡ other.window
  pub ranks : own.rank ≢ other.rank
  pub target : HaveTarget own.target other.target
  pub not_before : ¬ IsUnlockedFirst links own other
  pub not_after : ¬ IsUnlockedFirst links other own

-- a lock epoch whose call says `nocheck` is reported, by another that may be held at once, where one of the two keeps all others away
pub record IsLockedBeside (links : Links) (calls : ℕ → List Call) (own other : LockSpan) (found : BrokenAssertion) : Type 0 where
  pub reason : found.reason ≡ NocheckLock
  pub kind : Locking
  pub kind_is : locking_at calls own ≡ Some kind
  pub says : kind.nocheck ≡ true
  pub other_kind : Locking
  pub other_kind_is : locking_at calls other ≡ Some other_kind
  pub exclusive : (kind.exclusive || other_kind.exclusive) ≡ true
  pub at_once : MayBeHeldAtOnce links own other
  pub rank : found.rank ≡ own.rank
  pub line : found.line ≡ own.line
  pub other_is : found.other.0 ≡ other.rank
  pub other_line : found.other.1 ≡ other.line

-- some lock epoch of these is, by some other of them
abbrev pub IsLockBroken : Links → (ℕ → List Call) → List LockSpan → BrokenAssertion → Type 0
IsLockBroken links calls locks found = (own : LockSpan) × Contains locks own × ((other : LockSpan) × Contains locks other × IsLockedBeside links calls own other found)
