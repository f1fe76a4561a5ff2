-- Why a call stands in no epoch that allows it (MPI 4.0, "One-Sided Communications").
use Rattle.std.specs.Prelude.{ℕ, List, [], ◌∷◌, Bool, false, ◌||◌, ◌&&◌, not, Option, Some, None, find, is_some, is_none}
use Rattle.std.specs.List.{list_any}
use Rattle.std.specs.Option.{option_and_then, option_map_or}
use Rattle.rma_base.specs.RankSet.{has_number}
use Rattle.rma_base.specs.declared.rank.Rank.{Rank}
use Rattle.rma_base.specs.declared.epoch_reason.EpochReason.{EpochReason}
use Rattle.rma_base.specs.declared.epoch_reason.EpochReason.TheVariants.{NotMember, NoEpoch, RequestOutsidePassive, OutsideWindow, FlushOutsidePassive, AccessOverlap, FenceInEpoch, NoPrecedeBroken, ExposureOverlap, CloseWithoutOpen, EpochLeftOpen}
use Rattle.rma_call.specs.Call.{Call}
use Rattle.rma_call.specs.declared.what.What.{What}
use Rattle.rma_call.specs.declared.what.What.TheVariants.{Sync, Rma}
use Rattle.rma_call.specs.declared.what.SyncCall.TheVariants.{Epoch}
use Rattle.rma_call.specs.declared.what.SyncCall.TheVariants as sync
use Rattle.rma_call.specs.declared.window.WindowCall.TheVariants.{Free}
use Rattle.rma_call.specs.declared.epoch.EpochCall.TheVariants.{Fence, Post, Start, Complete, Expwait, Lock, Unlock, LockAll, UnlockAll, Flush, FlushAll, FlushLocal, FlushLocalAll}
use Rattle.rma_call.specs.declared.epoch.EpochCall.TheVariants as epoch
use Rattle.rma_window.specs.Windows.{Window, part_named}
use Rattle.rma_open.specs.Calls.{window_on, named_by}
use Rattle.rma_open.specs.Open.{Open, open_on, is_used, is_left}
use Rattle.rma_open.specs.Range.{touches_outside}

-- whether a rank has no part of a window
abbrev pub lacks_part : List Window → List ℕ → ℕ → Bool
lacks_part windows window rank = is_none (part_named windows window (record { 0 = rank }))

-- a rank that the call names has no part of its window
abbrev pub not_member : List Window → What → Bool
not_member windows what = option_map_or (λ window. list_any (lacks_part windows window) (named_by what)) (window_on what) false

-- a lock reaches a target, its own or that of all parts; no target is reached by any
abbrev pub is_passive : Open → Option Rank → Bool
is_passive own (Some target) = is_some own.lock_all || is_some (own.lock_on target.0)
is_passive own None = is_some own.lock_all || own.any_lock

-- a start reaches the targets of its group; no target is reached by any
abbrev pub start_reaches : Open → Option Rank → Bool
start_reaches own (Some target) = option_map_or (λ start. has_number target.0 start.targets) own.start false
start_reaches own None = is_some own.start

-- some epoch reaches a target: an open phase, a start or a lock
abbrev pub reaches : Open → Option Rank → Bool
reaches own target = is_some own.phase || start_reaches own target || is_passive own target

-- an access outside every epoch that reaches its target
abbrev pub no_epoch : Open → What → Bool
no_epoch own (Rma call) = not (reaches own call.target)
no_epoch own _ = false

-- an access with a request, to a target that no lock reaches
abbrev pub request_outside_passive : Open → What → Option ℕ → Bool
request_outside_passive own (Rma call) request = is_some request && not (is_passive own call.target)
request_outside_passive own _ request = false

-- an access that touches a byte outside its target's part
abbrev pub outside_window : List Window → What → Bool
outside_window windows (Rma call) =
    option_map_or (λ part. touches_outside part call.displacement call.at_target.runs) (option_and_then (part_named windows call.window) call.target) false
outside_window windows _ = false

-- a flush of a target that no lock reaches, or one of all targets, or a sync, while nothing is locked
abbrev pub flush_outside_passive : Open → What → Bool
flush_outside_passive own (Sync (Epoch (Flush window target))) = not (is_passive own (Some target))
flush_outside_passive own (Sync (Epoch (FlushLocal window target))) = not (is_passive own (Some target))
flush_outside_passive own (Sync (Epoch (FlushAll window))) = not (is_passive own None)
flush_outside_passive own (Sync (Epoch (FlushLocalAll window))) = not (is_passive own None)
flush_outside_passive own (Sync (Epoch (epoch.Sync window))) = not (is_passive own None)
flush_outside_passive own _ = false

-- an access epoch is open that lets none begin beside it: a used phase, a start or a lockall
abbrev pub is_accessing : Open → Bool
is_accessing own = is_used own || is_some own.start || is_some own.lock_all

-- a start, a lock or a lockall inside such an epoch; a start or a lockall while any target is locked; a lock of a target that is locked
abbrev pub access_overlap : Open → What → Bool
access_overlap own (Sync (Epoch (Start window targets assertions))) = is_accessing own || own.any_lock
access_overlap own (Sync (Epoch (LockAll window assertions))) = is_accessing own || own.any_lock
access_overlap own (Sync (Epoch (Lock window target kind assertions))) = is_accessing own || is_some (own.lock_on target.0)
access_overlap own _ = false

-- a fence while a start, a post, a lock or a lockall is open
abbrev pub fence_in_epoch : Open → What → Bool
fence_in_epoch own (Sync (Epoch (Fence window assertions))) = is_some own.start || is_some own.post || is_some own.lock_all || own.any_lock
fence_in_epoch own _ = false

-- a fence with `noprecede` while the phase is used
abbrev pub no_precede_broken : Open → What → Bool
no_precede_broken own (Sync (Epoch (Fence window assertions))) = assertions.noprecede && is_used own
no_precede_broken own _ = false

-- a post while a post is open
abbrev pub exposure_overlap : Open → What → Bool
exposure_overlap own (Sync (Epoch (Post window origins assertions))) = is_some own.post
exposure_overlap own _ = false

-- a call that closes what is not open
abbrev pub close_without_open : Open → What → Bool
close_without_open own (Sync (Epoch (Complete window))) = is_none own.start
close_without_open own (Sync (Epoch (Expwait window))) = is_none own.post
close_without_open own (Sync (Epoch (Unlock window target))) = is_none (own.lock_on target.0)
close_without_open own (Sync (Epoch (UnlockAll window))) = is_none own.lock_all
close_without_open own _ = false

-- the free of a window with an epoch that has to be closed
abbrev pub epoch_left_open : Open → What → Bool
epoch_left_open own (Sync (sync.Window (Free window))) = is_left own
epoch_left_open own _ = false

-- whether this is a reason, for a call and what is open on its window
abbrev pub holds : List Window → Open → What → Option ℕ → EpochReason → Bool
holds windows own what request NotMember = not_member windows what
holds windows own what request NoEpoch = no_epoch own what
holds windows own what request RequestOutsidePassive = request_outside_passive own what request
holds windows own what request OutsideWindow = outside_window windows what
holds windows own what request FlushOutsidePassive = flush_outside_passive own what
holds windows own what request AccessOverlap = access_overlap own what
holds windows own what request FenceInEpoch = fence_in_epoch own what
holds windows own what request NoPrecedeBroken = no_precede_broken own what
holds windows own what request ExposureOverlap = exposure_overlap own what
holds windows own what request CloseWithoutOpen = close_without_open own what
holds windows own what request EpochLeftOpen = epoch_left_open own what

-- the reasons but the first, in the order in which they are asked
abbrev pub other_reasons : List EpochReason
other_reasons =
    NoEpoch ∷ RequestOutsidePassive ∷ OutsideWindow ∷ FlushOutsidePassive ∷ AccessOverlap ∷ FenceInEpoch ∷ NoPrecedeBroken ∷ ExposureOverlap ∷ CloseWithoutOpen ∷ EpochLeftOpen ∷ []

-- the reasons, in the order in which they are asked
abbrev pub all_reasons : List EpochReason
all_reasons = NotMember ∷ other_reasons

-- the first reason of a call, where this is open on its window
abbrev pub reason_in : List Window → Open → What → Option ℕ → Option EpochReason
reason_in windows own what request = find (holds windows own what request) all_reasons

-- the first reason of a call of a rank, after these calls of the rank; a call that is on no window has none
abbrev pub reason_at : List Window → List Call → Call → Option EpochReason
reason_at windows before call = option_and_then (λ window. reason_in windows (open_on before window) call.what call.request) (window_on call.what)
