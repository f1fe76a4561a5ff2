-- What the epochs of a rank come to (MPI 4.0, "One-Sided Communications").
use Rattle.std.specs.Prelude.{◌≡◌, ◌<◌, ℕ, ◌+◌, List, [], ◌∷◌, length, take, Bool, false, Option, Some, None, is_some, option_map, slice_get}
use Rattle.std.specs.List.{cons_option, filter_map}
use Rattle.std.specs.Option.{option_map_or}
use Rattle.rma_base.specs.declared.rank.Rank.{Rank}
use Rattle.rma_call.specs.Call.{Call, RankCalls}
use Rattle.rma_call.specs.declared.rma.RmaCall.{RmaCall}
use Rattle.rma_call.specs.declared.what.What.{What}
use Rattle.rma_call.specs.declared.what.What.TheVariants.{Sync, Rma}
use Rattle.rma_call.specs.declared.what.SyncCall.TheVariants as sync
use Rattle.rma_call.specs.declared.epoch.EpochCall.TheVariants as epoch
use Rattle.rma_window.specs.declared.window_id.WindowId.{WindowId}
use Rattle.rma_window.specs.Windows.{Window, number_of}
use Rattle.rma_open.specs.declared.opening.EpochKind.{EpochKind}
use Rattle.rma_open.specs.declared.opening.EpochKind.TheVariants.{Lock, LockAll}
use Rattle.rma_open.specs.declared.opening.Opening.{Opening}
use Rattle.rma_epoch.specs.declared.epoch.Epoch.{Epoch}
use Rattle.rma_open.specs.Open.{open_on, is_exclusive}
use Rattle.rma_open.specs.Reaching.{all_reaching}
use Rattle.rma_epoch.specs.Fault.{fault_of}
use Rattle.rma_epoch.specs.Table.{Ascend, InOrder, close_of, epoch_at, epochs_of, placed_of, sound_calls}
use Rattle.rma_epoch.specs.Targets.{one_target}

-- ---- sound calls

-- the sound calls are the first ones of the rank
abbrev pub SoundComeFirst : List Window → List Call → Type 0
SoundComeFirst windows calls = sound_calls windows calls ≡ take (length (sound_calls windows calls)) calls

-- a call right behind the sound ones is that of the first fault
abbrev pub FaultComesNext : List Window → RankCalls → Type 0
FaultComesNext windows own = (call : Call) → slice_get own.calls (length (sound_calls windows own.calls)) ≡ Some call → option_map (λ fault. fault.line) (fault_of windows own) ≡ Some call.line

-- ---- the list of epochs

-- the epochs ascend by the calls that open them, so two with one opener are the same
abbrev pub EpochsAscend : List Window → List Call → Type 0
EpochsAscend windows calls = Ascend (epochs_of windows calls)

-- a call that closes an epoch comes after the one that opens it
abbrev pub CloseComesLater : List Window → List Call → Type 0
CloseComesLater windows calls = (index : ℕ) (epoch : Epoch) (close : ℕ) → slice_get (epochs_of windows calls) index ≡ Some epoch → epoch.close ≡ Some close → epoch.opener < close

-- a call closes one epoch at most
abbrev pub ClosesOne : List Window → List Call → Type 0
ClosesOne windows calls =
    (i j : ℕ) (a b : Epoch) (close : ℕ) → slice_get (epochs_of windows calls) i ≡ Some a → slice_get (epochs_of windows calls) j ≡ Some b → a.close ≡ Some close → b.close ≡ Some close → i ≡ j

-- ---- accesses

-- whether a call is an access to a target
abbrev pub has_target : What → Bool
has_target (Rma call) = is_some call.target
has_target _ = false

-- the accesses that stand in an epoch ascend, so that each stands in one
abbrev pub PlacedAscend : List Window → List Call → Type 0
PlacedAscend windows calls = InOrder (placed_of windows calls)

-- a sound access to a target stands in an epoch, and no other call does
abbrev pub AccessesHaveEpochs : List Window → List Call → Type 0
AccessesHaveEpochs windows calls =
    (number : ℕ) → is_some (epoch_at (placed_of windows (sound_calls windows calls)) number) ≡ option_map_or (λ call. has_target call.what) (slice_get (sound_calls windows calls) number) false

-- an epoch on the window of a call, of this kind and opened by this call
pub record IsEpoch (windows : List Window) (name : List ℕ) (opening : Opening) (epoch : Epoch) : Type 0 where
  pub kind : epoch.kind ≡ opening.kind
  pub window : Some epoch.window ≡ number_of windows name
  pub opener : epoch.opener ≡ opening.opener

-- the epoch at an index is on a window, and was opened so
abbrev pub IsEpochAt : List Window → List Call → List ℕ → Opening → ℕ → Type 0
IsEpochAt windows calls window opening index = (epoch : Epoch) × (slice_get (epochs_of windows calls) index ≡ Some epoch) × IsEpoch windows window opening epoch

-- of a sound access to a target, exactly one epoch reaches the target, and the access stands in that one
abbrev pub OneReaches : List Window → List Call → Type 0
OneReaches windows calls =
    (number : ℕ) (call : Call) (access : RmaCall) (target : Rank) → slice_get (sound_calls windows calls) number ≡ Some call → call.what ≡ Rma access → access.target ≡ Some target
    → (opening : Opening)
    × (all_reaching (open_on (take number (sound_calls windows calls)) access.window) target ≡ opening ∷ [])
    × ((index : ℕ) × (epoch_at (placed_of windows (sound_calls windows calls)) number ≡ Some index) × IsEpochAt windows (sound_calls windows calls) access.window opening index)

-- a sound access comes after the call that opens its epoch, and before the one that closes it
abbrev pub AccessesLieWithin : List Window → List Call → Type 0
AccessesLieWithin windows calls =
    (number index : ℕ) (epoch : Epoch) → epoch_at (placed_of windows (sound_calls windows calls)) number ≡ Some index → slice_get (epochs_of windows (sound_calls windows calls)) index ≡ Some epoch
    → (epoch.opener < number) × ((close : ℕ) → epoch.close ≡ Some close → number < close)

-- ---- lock epochs

-- a lock epoch: its window, its target, which a lockall has not, whether it keeps all other locks away, and the calls that open
-- and close it
pub record LockEpoch : Type 0 where
  pub window : WindowId
  pub target : Option Rank
  pub exclusive : Bool
  pub opener : ℕ
  pub close : Option ℕ

-- the lock epoch that the call of a number opens, where it opens one on a window of the run, closed by this call
abbrev pub lock_opened : List Window → Option ℕ → ℕ → What → Option LockEpoch
lock_opened windows close number (Sync (sync.Epoch (epoch.Lock window target kind assertions))) =
    option_map (λ id. record { window = id; target = Some target; exclusive = is_exclusive kind; opener = number; close = close }) (number_of windows window)
lock_opened windows close number (Sync (sync.Epoch (epoch.LockAll window assertions))) =
    option_map (λ id. record { window = id; target = None; exclusive = false; opener = number; close = close }) (number_of windows window)
lock_opened windows close number _ = None

-- those that some calls open, in the order of their opening; the first of the calls has this number
abbrev pub locks_from : List Window → (ℕ → Option ℕ) → ℕ → List Call → List LockEpoch
locks_from windows close number [] = []
locks_from windows close number (call ∷ calls) = cons_option (lock_opened windows (close number) number call.what) (locks_from windows close (number + 1) calls)

-- the lock epochs of these calls, in the order of their opening
abbrev pub locks_of : List Window → List Call → List LockEpoch
locks_of windows calls = locks_from windows (close_of calls) 0 calls

-- a lock epoch of a kind, where it is that of a lock or a lockall
abbrev pub lock_of_kind : EpochKind → Epoch → Option LockEpoch
lock_of_kind (Lock exclusive) epoch = Some (record { window = epoch.window; target = one_target epoch.targets; exclusive = exclusive; opener = epoch.opener; close = epoch.close })
lock_of_kind LockAll epoch = Some (record { window = epoch.window; target = None; exclusive = false; opener = epoch.opener; close = epoch.close })
lock_of_kind _ epoch = None

-- an epoch as a lock epoch, where it is one
abbrev pub as_lock : Epoch → Option LockEpoch
as_lock epoch = lock_of_kind epoch.kind epoch

-- the lock epochs are the epochs of a lock or of a lockall
abbrev pub LocksAreEpochs : List Window → List Call → Type 0
LocksAreEpochs windows calls = filter_map as_lock (epochs_of windows calls) ≡ locks_of windows calls
