-- The sound calls of a rank, its epochs, and those in which its accesses stand (MPI 4.0, "One-Sided Communications").
use Rattle.std.specs.Prelude.{◌≡◌, ◌<◌, ℕ, ◌+◌, ◌==◌, List, [], ◌∷◌, ◌++◌, length, map, find, position, Bool, false, Option, Some, None, is_none, option_map, slice_get, unwrap_or, if◌then◌else◌}
use Rattle.std.specs.List.{cons_option}
use Rattle.std.specs.Option.{option_and_then, option_map_or, option_or}
use Rattle.rma_base.specs.declared.epoch_reason.EpochReason.{EpochReason}
use Rattle.rma_call.specs.Call.{Call, CallTable}
use Rattle.rma_call.specs.declared.what.What.{What}
use Rattle.rma_call.specs.declared.what.What.TheVariants.{Sync}
use Rattle.rma_call.specs.declared.what.SyncCall.TheVariants as sync
use Rattle.rma_call.specs.declared.epoch.EpochCall.TheVariants as epoch
use Rattle.rma_window.specs.declared.part.Part.{Part}
use Rattle.rma_window.specs.declared.window_id.WindowId.{WindowId}
use Rattle.rma_window.specs.Windows.{Window}
use Rattle.rma_open.specs.declared.opening.EpochKind.TheVariants.{Fence, Start, Lock, LockAll, Post}
use Rattle.rma_open.specs.declared.opening.Opening.{Opening}
use Rattle.rma_epoch.specs.declared.epoch.Epoch.{Epoch}
use Rattle.rma_epoch.specs.declared.epoch.Placed.{Placed}
use Rattle.rma_epoch.specs.declared.epoch.Targets.TheVariants.{All, One, Group}
use Rattle.rma_open.specs.Calls.{number_on, part_on, window_on}
use Rattle.rma_open.specs.Open.{open_on, is_exclusive}
use Rattle.rma_open.specs.Reason.{reason_at}
use Rattle.rma_open.specs.Reaching.{closed_by, opening_in}

-- ---- the sound calls

-- the calls up to the first that has a reason, after the calls before
abbrev pub sound_from : List Window → List Call → List Call → List Call
sound_from windows before [] = []
sound_from windows before (call ∷ calls) = if is_none (reason_at windows before call) then call ∷ sound_from windows (before ++ call ∷ []) calls else []

-- the sound calls among those of a rank: those before the first that stands in no epoch that allows it, or all of them
abbrev pub sound_calls : List Window → List Call → List Call
sound_calls windows calls = sound_from windows [] calls

-- the calls that are taken once a call has come, which is taken unless it has a reason
abbrev pub taken_with : Option EpochReason → Call → List Call → List Call
taken_with reason call calls = if is_none reason then calls ++ call ∷ [] else calls

-- ---- what a call opens

-- the epoch that the call of a number opens on a window: a fence opens a phase unless it says `nosucceed`, a post the exposure
-- epoch of its group, a start the access epoch of its group, a lock that of its target, and a lockall that of all members. No
-- call has closed it yet
abbrev pub opened_on : ℕ → What → WindowId → Option Epoch
opened_on number (Sync (sync.Epoch (epoch.Fence window assertions))) id =
    if assertions.nosucceed then None else Some (record { kind = Fence; window = id; targets = All; opener = number; close = None })
opened_on number (Sync (sync.Epoch (epoch.Post window origins assertions))) id = Some (record { kind = Post; window = id; targets = Group origins; opener = number; close = None })
opened_on number (Sync (sync.Epoch (epoch.Start window targets assertions))) id = Some (record { kind = Start; window = id; targets = Group targets; opener = number; close = None })
opened_on number (Sync (sync.Epoch (epoch.Lock window target kind assertions))) id = Some (record { kind = Lock (is_exclusive kind); window = id; targets = One target; opener = number; close = None })
opened_on number (Sync (sync.Epoch (epoch.LockAll window assertions))) id = Some (record { kind = LockAll; window = id; targets = All; opener = number; close = None })
opened_on number _ id = None

-- the same on the window that the call is on, where it is one of the run
abbrev pub opened_by : List Window → ℕ → What → Option Epoch
opened_by windows number what = option_and_then (opened_on number what) (number_on windows what)

-- those that some calls open, in the order of their opening; the first of the calls has this number
abbrev pub opened_from : List Window → ℕ → List Call → List Epoch
opened_from windows number [] = []
opened_from windows number (call ∷ calls) = cons_option (opened_by windows number call.what) (opened_from windows (number + 1) calls)

-- ---- what a call closes

-- the call that opened what a call closes after these calls of the rank
abbrev pub closed_at : List Call → Call → Option ℕ
closed_at before call = option_and_then (λ window. closed_by (open_on before window) call.what) (window_on call.what)

-- whether it is the call of this number
abbrev pub is_opener : ℕ → Option ℕ → Bool
is_opener number opener = option_map_or (λ n. n == number) opener false

-- the call that closes what the call of a number opened, among some calls of a rank after the calls before. There is one at
-- most, since what is closed is open no more
abbrev pub close_from : ℕ → List Call → List Call → Option ℕ
close_from opener before [] = None
close_from opener before (call ∷ calls) =
    option_or (close_from opener (before ++ call ∷ []) calls) (if is_opener opener (closed_at before call) then Some (length before) else None)

-- the call that closes what the call of a number opened, where these calls have it
abbrev pub close_of : List Call → ℕ → Option ℕ
close_of calls opener = close_from opener [] calls

-- ---- the epochs

-- an epoch with the call that closes it
abbrev pub epoch_with : (ℕ → Option ℕ) → Epoch → Epoch
epoch_with close epoch = record epoch { close = close epoch.opener }

-- the epochs of these calls, in the order of their opening
abbrev pub epochs_of : List Window → List Call → List Epoch
epochs_of windows calls = map (epoch_with (close_of calls)) (opened_from windows 0 calls)

-- epochs ascend by the calls that open them: of two the later one has the later opener
abbrev pub Ascend : List Epoch → Type 0
Ascend epochs = (i j : ℕ) (a b : Epoch) → i < j → slice_get epochs i ≡ Some a → slice_get epochs j ≡ Some b → a.opener < b.opener

-- whether the call of this number opens an epoch
abbrev pub is_opened_by : ℕ → Epoch → Bool
is_opened_by opener epoch = epoch.opener == opener

-- the index of the epoch that the call of a number opens, where there is one
abbrev pub index_in : List Epoch → ℕ → Option ℕ
index_in epochs opener = position (is_opened_by opener) epochs

-- ---- the epoch in which a call stands

-- the epoch in which a call stands after these calls of the rank, where it is an access to a target
abbrev pub opening_at : List Call → Call → Option Opening
opening_at before call = option_and_then (λ window. opening_in (open_on before window) call.what) (window_on call.what)

-- the index of that epoch among those of the calls before
abbrev pub index_at : List Window → List Call → Call → Option ℕ
index_at windows before call = option_and_then (λ opening. index_in (epochs_of windows before) opening.opener) (opening_at before call)

-- the index of the epoch that a call closes after these calls of the rank
abbrev pub closing_at : List Window → List Call → Call → Option ℕ
closing_at windows before call = option_and_then (index_in (epochs_of windows before)) (closed_at before call)

-- the accesses to a target among some calls of a rank after the calls before, each with the index of the epoch in which it stands
abbrev pub placed_from : List Window → List Call → List Call → List Placed
placed_from windows before [] = []
placed_from windows before (call ∷ calls) =
    cons_option (option_map (λ index. record { call = length before; epoch = index }) (index_at windows before call)) (placed_from windows (before ++ call ∷ []) calls)

-- those of these calls
abbrev pub placed_of : List Window → List Call → List Placed
placed_of windows calls = placed_from windows [] calls

-- accesses ascend: of two the later one has the larger number
abbrev pub InOrder : List Placed → Type 0
InOrder placed = (i j : ℕ) (a b : Placed) → i < j → slice_get placed i ≡ Some a → slice_get placed j ≡ Some b → a.call < b.call

-- whether it is the access of this number
abbrev pub is_access : ℕ → Placed → Bool
is_access call placed = placed.call == call

-- the index of the epoch in which the call of a number stands, where it is an access to a target
abbrev pub epoch_at : List Placed → ℕ → Option ℕ
epoch_at placed call = option_map (λ p. p.epoch) (find (is_access call) placed)

-- ---- what all calls share that do the same

-- the window that calls are on, where it is one of the run, and the part of their target there
pub record OnWindow : Type 0 where
  pub window : Option WindowId
  pub part : Option Part

-- no window
abbrev pub on_none : OnWindow
on_none = record { window = None; part = None }

-- those of calls that do this
abbrev pub on_window : List Window → What → OnWindow
on_window windows what = record { window = number_on windows what; part = part_on windows what }

-- those that stand at a number
abbrev pub at_what : List OnWindow → ℕ → OnWindow
at_what parts number = unwrap_or (slice_get parts number) on_none

-- at the number of what a call does stand those of the call
abbrev pub AreParts : List Window → CallTable → List OnWindow → Type 0
AreParts windows table parts =
    (i number : ℕ) (call : Call) → slice_get table.calls i ≡ Some call → slice_get table.whats number ≡ Some call.what → at_what parts number ≡ on_window windows call.what

-- ---- the table

-- the epochs of a rank: how many calls are sound, their epochs, those in which accesses stand, and what calls share that do the same
pub record Epochs : Type 0 where
  pub sound : ℕ
  pub epochs : List Epoch
  pub placed : List Placed
  pub parts : List OnWindow

-- the epochs of the sound ones among these calls
pub record AreEpochs (windows : List Window) (table : CallTable) (own : Epochs) : Type 0 where
  pub sound : own.sound ≡ length (sound_calls windows table.calls)
  pub epochs : own.epochs ≡ epochs_of windows (sound_calls windows table.calls)
  pub placed : own.placed ≡ placed_of windows (sound_calls windows table.calls)
  pub parts : AreParts windows table own.parts
