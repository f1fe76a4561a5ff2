-- What is open on a window after some calls of a rank (MPI 4.0, "One-Sided Communications"). The calls are those on the window,
-- the latest first.
use Rattle.std.specs.Prelude.{ℕ, ◌==◌, List, [], ◌∷◌, Bool, true, false, ◌||◌, ◌&&◌, not, Option, Some, None, is_some, unwrap_or, if◌then◌else◌}
use Rattle.std.specs.List.{list_any}
use Rattle.std.specs.Option.{option_and_then, option_map_or, option_or}
use Rattle.rma_call.specs.declared.what.What.{What}
use Rattle.rma_call.specs.declared.what.What.TheVariants.{Sync, Rma}
use Rattle.rma_call.specs.declared.what.SyncCall.TheVariants.{Epoch, Window}
use Rattle.rma_call.specs.declared.window.WindowCall.TheVariants.{Free}
use Rattle.rma_call.specs.declared.epoch.EpochCall.TheVariants.{Fence, Post, Start, Complete, Expwait, Lock, Unlock, LockAll, UnlockAll}
use Rattle.rma_call.specs.declared.epoch.LockKind.{LockKind}
use Rattle.rma_call.specs.declared.epoch.LockKind.TheVariants.{Exclusive, Shared}
use Rattle.rma_call.specs.Call.{Call}
use Rattle.rma_open.specs.declared.opening.OpenStart.{OpenStart}
use Rattle.rma_open.specs.declared.opening.HeldLock.{HeldLock}
use Rattle.rma_open.specs.declared.opening.FencePhase.{FencePhase}
use Rattle.rma_open.specs.Calls.{past_on}

-- what the latest call says that opens or closes something: None where it closes it, and where no call does either
abbrev pub left_by : {X : Type 0} → (ℕ → What → Option (Option X)) → List (ℕ × What) → Option X
left_by says [] = None
left_by says (call ∷ past) = unwrap_or (says call.0 call.1) (left_by says past)

-- a start opens an access epoch to its group, and a complete closes it
abbrev pub of_start : ℕ → What → Option (Option OpenStart)
of_start number (Sync (Epoch (Start window targets assertions))) = Some (Some (record { opener = number; targets = targets }))
of_start number (Sync (Epoch (Complete window))) = Some None
of_start number _ = None

-- a post opens an exposure epoch, and an expwait closes it
abbrev pub of_post : ℕ → What → Option (Option ℕ)
of_post number (Sync (Epoch (Post window origins assertions))) = Some (Some number)
of_post number (Sync (Epoch (Expwait window))) = Some None
of_post number _ = None

-- a lockall locks the parts of all members, and an unlockall ends that
abbrev pub of_lock_all : ℕ → What → Option (Option ℕ)
of_lock_all number (Sync (Epoch (LockAll window assertions))) = Some (Some number)
of_lock_all number (Sync (Epoch (UnlockAll window))) = Some None
of_lock_all number _ = None

-- whether a lock keeps all others away
abbrev pub is_exclusive : LockKind → Bool
is_exclusive Exclusive = true
is_exclusive Shared = false

-- a lock of a target locks its part, and the unlock of the target ends that
abbrev pub of_lock : ℕ → ℕ → What → Option (Option HeldLock)
of_lock target number (Sync (Epoch (Lock window own kind assertions))) = if own.0 == target then Some (Some (record { opener = number; exclusive = is_exclusive kind })) else None
of_lock target number (Sync (Epoch (Unlock window own))) = if own.0 == target then Some None else None
of_lock target number _ = None

-- a fence opens a phase, and closes the one before; with `nosucceed` it opens none
abbrev pub of_fence : ℕ → What → Option (Option ℕ)
of_fence number (Sync (Epoch (Fence window assertions))) = Some (if assertions.nosucceed then None else Some number)
of_fence number _ = None

-- whether a call uses the phase in which it stands: an access to a target does, also of no bytes or to no target. A start, a
-- lock or a lockall does not; it ends a phase that is not used yet
abbrev pub uses : What → Option Bool
uses (Rma call) = Some true
uses (Sync (Epoch (Start window targets assertions))) = Some false
uses (Sync (Epoch (Lock window target kind assertions))) = Some false
uses (Sync (Epoch (LockAll window assertions))) = Some false
uses _ = None

-- whether the first of the calls since the last fence that uses or ends the phase uses it
abbrev pub first_use : List (ℕ × What) → Option Bool
first_use [] = None
first_use (call ∷ past) = if is_some (of_fence call.0 call.1) then None else option_or (first_use past) (uses call.1)

-- the phase that a fence opened, unless its first use ended it
abbrev pub phase_of : Option Bool → ℕ → Option FencePhase
phase_of None opener = Some (record { opener = opener; used = false })
phase_of (Some true) opener = Some (record { opener = opener; used = true })
phase_of (Some false) opener = None

-- the target that a call locks
abbrev pub locked_by : What → Option ℕ
locked_by (Sync (Epoch (Lock window target kind assertions))) = Some target.0
locked_by _ = None

-- whether a call frees the window
abbrev pub frees : What → Bool
frees (Sync (Window (Free window))) = true
frees _ = false

-- what is open on a window
pub record Open : Type 0 where
  -- the access epoch of a start
  pub start : Option OpenStart
  -- the call that opened the exposure epoch
  pub post : Option ℕ
  -- the call that locked the parts of all members
  pub lock_all : Option ℕ
  -- the lock of the part of a target
  pub lock_on : ℕ → Option HeldLock
  -- whether the part of some target is locked by a lock of its own
  pub any_lock : Bool
  -- the phase that a fence opened
  pub phase : Option FencePhase
  -- whether the window is freed
  pub freed : Bool

-- the lock of a target that is held
abbrev pub lock_of : List (ℕ × What) → ℕ → Option HeldLock
lock_of past target = left_by (of_lock target) past

-- whether the call locks a target whose lock is held after these calls
abbrev pub is_held : List (ℕ × What) → ℕ × What → Bool
is_held past call = option_map_or (λ target. is_some (lock_of past target)) (locked_by call.1) false

-- what is open after these calls
abbrev pub open_after : List (ℕ × What) → Open
open_after past = record {
  start = left_by of_start past;
  post = left_by of_post past;
  lock_all = left_by of_lock_all past;
  lock_on = lock_of past;
  any_lock = list_any (is_held past) past;
  phase = option_and_then (phase_of (first_use past)) (left_by of_fence past);
  freed = list_any (λ call. frees call.1) past;
}

-- what is open on a window after these calls of a rank
abbrev pub open_on : List Call → List ℕ → Open
open_on calls window = open_after (past_on window calls)

-- whether the phase is open and used
abbrev pub is_used : Open → Bool
is_used own = option_map_or (λ phase. phase.used) own.phase false

-- whether some epoch is open that has to be closed: a phase only where it is used
abbrev pub is_left : Open → Bool
is_left own = is_some own.start || is_some own.post || is_some own.lock_all || own.any_lock || is_used own

-- whether an epoch has to be closed yet on a window that is not freed
abbrev pub is_unclosed : Open → Bool
is_unclosed own = not own.freed && is_left own
