-- The epochs of a run, and the lists beside its accesses (MPI 4.0, "One-Sided Communications").
use Rattle.std.specs.Prelude.{◌≡◌, ◌++◌, List, [], map, length, All, Contains}
use Rattle.std.specs.List.{filter_map, flat_map}
use Rattle.rma_call.specs.Call.{RankCalls}
use Rattle.rma_run.specs.Run.{IsRun}
use Rattle.rma_kept.specs.Kept.{AreKept}
use Rattle.rma_window.specs.Creation.{creations}
use Rattle.rma_window.specs.Windows.{Window, windows_by}
use Rattle.rma_epoch.specs.declared.epoch.Epoch.{Epoch}
use Rattle.rma_epoch.specs.Fault.{fault_from}
use Rattle.rma_epoch.specs.Table.{AreEpochs, epochs_of, sound_calls}
use Rattle.rma_exposed.specs.Exposed.{exposure_of, lock_span, post_of}
use Rattle.rma_rules.specs.declared.span.Exposure.{Exposure}
use Rattle.rma_rules.specs.declared.span.LockSpan.{LockSpan}
use Rattle.rma_rules.specs.declared.span.Post.{Post}
use Rattle.rma_rules.specs.Spans.{Spans}
use Rattle.rma_fenced.specs.declared.phase.Phase.{Phase}
use Rattle.rma_fenced.specs.Fenced.{accessed_in, fenced_of}
use Rattle.rma_points.specs.Points.{AreRunCalls}
use Rattle.rma_accesses.specs.declared.epochs.RankEpochs.{RankEpochs}
use Rattle.rma_accesses.specs.declared.epochs.RunEpochs.{RunEpochs}

-- the logs of a run are good: the i-th is that of rank i, and the calls of each rank are kept
pub record AreGood (ranks : List RankCalls) : Type 0 where
  pub run : IsRun ranks
  pub kept : (own : RankCalls) → Contains ranks own → AreKept own.rank.0 (length ranks) own.calls

-- ---- epochs

-- the rank whose epochs these are
abbrev pub own_of : RankEpochs → RankCalls
own_of given = given.own.now

-- these are the epochs of a rank in a run with these windows, and its first fault
pub record IsEpochsOf (windows : List Window) (given : RankEpochs) : Type 0 where
  pub calls : given.calls.now.calls ≡ given.own.now.calls
  pub table : AreEpochs windows given.calls.now given.table
  pub fault : given.fault ≡ fault_from windows [] given.own.now.calls given.own.now.end

-- these are the windows of a run, and the epochs of each rank
pub record AreEpochsOf (ranks : List RankCalls) (given : RunEpochs) : Type 0 where
  pub windows : given.windows ≡ windows_by (creations ranks)
  pub owns : map own_of given.ranks.items ≡ ranks
  pub each : All (IsEpochsOf given.windows) given.ranks.items

-- ---- the lists beside accesses

-- the epochs of the sound calls of a rank
abbrev pub own_epochs : List Window → RankCalls → List Epoch
own_epochs windows own = epochs_of windows (sound_calls windows own.calls)

-- its lock epochs
abbrev pub own_locks : List Window → RankCalls → List LockSpan
own_locks windows own = filter_map (lock_span own.rank own.calls) (own_epochs windows own)

-- its posts
abbrev pub own_posts : List Window → RankCalls → List Post
own_posts windows own = filter_map (post_of own.rank own.calls) (own_epochs windows own)

-- its exposures that posts open
abbrev pub own_exposures : List Window → RankCalls → List Exposure
own_exposures windows own = filter_map (exposure_of own.rank own.calls) (own_epochs windows own)

-- its exposures between fences, where accesses stand in these phases of the run
abbrev pub own_fenced : List Phase → List Window → RankCalls → List Exposure
own_fenced phases windows own = fenced_of phases windows own.rank (sound_calls windows own.calls)

-- the lists of a run: of each rank the calls that make stores and updates visible; the exposures that posts open, by rank, and then
-- those between fences, by rank; and by rank the lock epochs and the posts
pub record AreListsOf (ranks : List RankCalls) (spans : Spans) : Type 0 where
  pub calls : AreRunCalls ranks spans
  pub exposures : spans.exposures ≡ flat_map (own_exposures (windows_by (creations ranks))) ranks ++ flat_map (own_fenced (accessed_in ranks) (windows_by (creations ranks))) ranks
  pub locks : spans.locks ≡ flat_map (own_locks (windows_by (creations ranks))) ranks
  pub posts : spans.posts ≡ flat_map (own_posts (windows_by (creations ranks))) ranks
